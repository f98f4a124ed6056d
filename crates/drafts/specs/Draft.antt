-- A grammar while it is edited: a draft with eight marks, its edits (the document's steps), and what a history of edits gives.
-- Source: document 02, [13]; a draft without sentences is no fault here. Assumes nothing.
use Rattle.std.specs.Prelude.{ℕ, zero, suc, ◌+◌, ◌-◌, Bool, ◌&&◌, List, [], ◌∷◌, ◌++◌, leb, ltb, length, get_or, set, replicate}
use Rattle.std.proofs.Math.Option.{Option, none, some}
use Rattle.grammar.specs.Limits.{Limits}
use Rattle.grammar.specs.Grammar.{Rule}
use Rattle.grammar.specs.Table.{encode, rule_at}
use Rattle.grammar.specs.Refusal.{Answer, done, refused, refuse_unless, and_then, too_many_rules, not_present}
use Rattle.grammar.specs.TableCheck.{next_rule, stored_table}

-- marks are 1 to 8
abbrev pub marks_count : ℕ
marks_count = 8

-- a draft: t, n, the rules, and for each of the eight marks the rules as they were, if it is not empty
pub record Draft : Type 0 where
  pub terminals : ℕ
  pub nonterminals : ℕ
  pub rules : List Rule
  pub marks : List (Option (List Rule))

-- what is asked of a draft: to add the rule at the front of some entries, to withdraw rule i, to mark, to return
pub data Edit : Type 0 where
  add : List ℕ → Edit
  withdraw mark return : ℕ → Edit

-- other rules; t, n and all marks stay
abbrev pub with_rules : Draft → List Rule → Draft
with_rules d rules = record { terminals = d.terminals; nonterminals = d.nonterminals; rules = rules; marks = d.marks }

-- mark k keeps the rules; the other marks stay
abbrev pub with_mark : Draft → ℕ → Draft
with_mark d k = record { terminals = d.terminals; nonterminals = d.nonterminals; rules = d.rules; marks = set d.marks (k - 1) (some d.rules) }

-- what mark k keeps
abbrev pub kept : Draft → ℕ → Option (List Rule)
kept d k = get_or d.marks (k - 1) none

-- the number of a mark, and of a rule, from 1
abbrev pub is_mark : ℕ → Bool
is_mark k = leb 1 k && leb k marks_count

abbrev pub is_present : Draft → ℕ → Bool
is_present d i = leb 1 i && leb i (length d.rules)

-- returning brings the rules of mark k back; an empty mark is refused
abbrev pub restored : Draft → ℕ → Option (List Rule) → Answer Draft
restored d k none = refused not_present k
restored d k (some rules) = done (with_rules d rules)

-- the rules without the one at a place, from 0: later ones move down by one number
unfoldable pub without : ℕ → List Rule → List Rule
without i [] = []
without zero (r ∷ rules) = rules
without (suc i) (r ∷ rules) = r ∷ without i rules

module _ (L : Limits) where
  -- a new draft begins from t, n and a table, tried against the table order but for 19; all marks are empty
  unfoldable pub new_draft : ℕ → ℕ → List ℕ → Answer Draft
  new_draft t n table =
      and_then (stored_table L t n table) (λ G.
      done (record { terminals = t; nonterminals = n; rules = G.rules; marks = replicate marks_count none }))

  -- 7, then 2, 3, 4, 2, 5, 6, 8 for the rule that follows the draft's table, offsets counted on from its end
  unfoldable pub add_rule : Draft → List ℕ → Answer Draft
  add_rule d entries =
      let table = encode d.rules ++ entries in
      let at = length (encode d.rules) in
      refuse_unless too_many_rules at (ltb (length d.rules) L.max_rules)
      (and_then (next_rule L d.terminals d.nonterminals table d.rules at) (λ k.
      done (with_rules d (d.rules ++ (rule_at table at k ∷ [])))))

  -- one edit: the next draft, or the refusal
  unfoldable pub taken : Draft → Edit → Answer Draft
  taken d (add entries) = add_rule d entries
  taken d (withdraw i) = refuse_unless not_present i (is_present d i) (done (with_rules d (without (i - 1) d.rules)))
  taken d (mark k) = refuse_unless not_present k (is_mark k) (done (with_mark d k))
  taken d (return k) = refuse_unless not_present k (is_mark k) (restored d k (kept d k))

  -- a refused edit changes nothing
  abbrev pub or_same : Draft → Answer Draft → Draft
  or_same d (done e) = e
  or_same d (refused cause at) = d

  -- what a history makes of a draft, its edits in order
  unfoldable pub after : Draft → List Edit → Draft
  after d [] = d
  after d (s ∷ history) = after (or_same d (taken d s)) history
