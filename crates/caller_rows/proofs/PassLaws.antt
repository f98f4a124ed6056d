-- The ranks that the next level is written from: the sort of a level gives each caller its place among those before the same
-- nonterminal, which is the rank of its chain, and the rows of the level above hand it on. Assumes nothing.
use Prim.Native.Nat.{ℕ, suc, ◌+◌, ◌-◌, ◌≤◌, ◌<◌}
use mathlib.Core.Path.{◌≡◌, refl, sym, ap, ◌∙◌}
use mathlib.Core.List.{List, [], ◌∷◌}
use native.Mathlib.Omega.{arith}
use native.Mathlib.Decide.{dec_lt}
use lib.ListN.{length, get_or, take, replicate, length-replicate}
use Rattle.grammar.specs.Basics.{when, Mem}
use Rattle.grammar.specs.Limits.{limits}
use Rattle.grammar.specs.Grammar.{Grammar, WellFormed}
use Rattle.grammar.specs.Record.{record_of}
use Rattle.grammar.specs.Live.{is_live}
use Rattle.grammar.specs.declared.CheckedGrammar.{CheckedGrammar}
use Rattle.automaton.specs.Callers.{Spot, first, last, spot, same_items, chains, spots, number_of}
use Rattle.automaton.proofs.Callers.{shorten}
use Rattle.triple_laws.proofs.Members.{place_mem, under-test}
use Rattle.triple_laws.proofs.Callers.{chains_exact}
use Rattle.triple_laws.proofs.Spots.{place_mem_below}
use Rattle.triple_laws.proofs.CallerMoves.{number_first, first-state, last-state, seen_state}
use Rattle.caller_laws.specs.Classes.{caller_of, rank}
use Rattle.caller_laws.proofs.Classes.{stands, caller_state, shorter_state}
use Rattle.caller_laws.proofs.Walk.{rank-found, caller_rank}
use Rattle.caller_rows.specs.Clauses.{Filled, Under, RanksWritten}
use Rattle.caller_rule.specs.RuleRows.{Six}
use Rattle.caller_rows.specs.Levels.{dropped, Says, RanksOf, Cut}
use Rattle.caller_rows.proofs.PlaceLaws.{segment-most, segment-at, zeros}
use Rattle.caller_rows.proofs.KeyLaws.{spots-first, some-spots}
use Rattle.caller_rows.proofs.LevelLaws.{apart, count_is, is_rule, left_in, segment-places, width-chains}

-- a state with its farthest caller dropped is a state
dropped-state : (G : Grammar) → WellFormed limits G → limits.max_terminals < limits.nonterminal_base → (m : ℕ) (s : Spot) → Mem s (spots limits G (suc m))
    → Mem (dropped m s) (spots limits G m)
dropped-state G W a m first h = first-state limits G W a m
dropped-state G W a m last h = last-state limits G W a m
dropped-state G W a m (spot i d cs) h = shorter_state limits G W a m (stands limits G W a m i d cs h)

-- that of a chain's caller is the caller of the chain with its farthest caller dropped
dropped_caller : (m : ℕ) (cs : List (ℕ × ℕ)) → dropped m (caller_of cs) ≡ caller_of (take (suc m) cs)
dropped_caller m [] = refl
dropped_caller m (c ∷ cs) = refl

-- state 0 alone is in the segment of S'
start_ranked : (G : Grammar) (m n q : ℕ) (first callers old ranks : List ℕ) → Cut G m n q first callers → RanksWritten first callers (n + 1) old ranks → get_or ranks 0 0 ≡ 0
start_ranked G m n q starts callers old ranks C R =
    let o = get_or starts n 0 in
    let l : 0 < get_or starts (n + 1) 0 - o = omega (arith, ap length C.start, segment-most starts callers n) in
    let e : get_or callers (o + 0) 0 ≡ 0 = sym (segment-at starts callers n 0 l) ∙ ap (λ l. get_or l 0 0) C.start in
    let z = R.inside n (o + 0) (omega arith) (omega arith) (omega (arith, l)) in
    let y : get_or ranks (get_or callers (o + 0) 0) 0 ≡ 0 = omega (arith, z) in
    sym (ap (λ c. get_or ranks c 0) e) ∙ y

module _ (G : Grammar) (W : WellFormed limits G) where
  -- its record, whose columns the laws of levels are about
  abbrev g : CheckedGrammar
  g = record_of G

  -- each rule has one chain of no callers, and its rank is 0
  pub ranks_zero : RanksOf G 0 (replicate limits.max_states 0)
  unfolding rank same_items
  ranks_zero = record {
    are = λ i h cs w. zeros limits.max_states (number_of limits G 0 (caller_of cs));
    start = zeros limits.max_states 0;
    long = omega (arith, length-replicate {A = ℕ} limits.max_states 0);
    little = λ c. omega (arith, zeros limits.max_states c);
  }

  -- what pass_ranks asks
  pub down-under : (m q : ℕ) (rows : Six) → q ≡ length (spots limits G (suc m)) → length (spots limits G m) ≤ limits.max_states
      → Says G m rows → Under rows.down q limits.max_states
  down-under m q rows s few X p h =
      let t = get_or (spots limits G (suc m)) p last in
      let l : p < length (spots limits G (suc m)) = omega (arith, h, s) in
      let z = place_mem_below (dropped-state G W (apart G W g refl) m t (place_mem (spots limits G (suc m)) p last l)) in
      let y = X.down p l in
      omega (arith, z, y, few)

  -- of each caller of a rule write_ranks writes its place among them, which is the rank of its chain
  rank-written : (m n q : ℕ) (first callers old ranks : List ℕ) → Cut G m n q first callers → RanksWritten first callers (n + 1) old ranks
      → (i : ℕ) → i < length G.rules → (cs : List (ℕ × ℕ)) → Mem cs (chains limits G (suc m) (suc i))
      → get_or ranks (number_of limits G m (caller_of cs)) 0 ≡ rank cs (chains limits G (suc m) (suc i))
  rank-written m n q starts callers old ranks C R i l cs w =
      let h : i < g.count = omega (arith, l, count_is G W g refl) in
      let b = get_or g.lefts i 0 - limits.nonterminal_base in
      let r = rank cs (chains limits G (suc m) (suc i)) in
      let o = get_or starts b 0 in
      let l = left_in G W g refl i h in
      let u = width-chains G W g refl m n q starts callers C i h in
      let f = (rank-found w).0 in
      let v : r < get_or starts (b + 1) 0 - o = omega (arith, f, u) in
      let e : get_or callers (o + r) 0 ≡ number_of limits G m (caller_of cs) =
      sym (segment-at starts callers b r v)
      ∙ ap (λ l. get_or l r 0) (segment-places G W g refl m n q starts callers C i h)
      ∙ caller_rank limits G W (apart G W g refl) m i (is_rule G W g refl i h) cs w in
      let z = R.inside b (o + r) (omega (arith, l.0, l.1, C.nonterminals)) (omega arith) (omega (arith, v)) in
      sym (ap (λ c. get_or ranks c 0) e) ∙ omega (arith, z)

  -- what write_ranks, over the sort of level m, and pass_ranks, over the rows of level m + 1, give; q is the number of the latter's states
  pub ranks_next : (m n k q : ℕ) (first callers old ranks spare passed : List ℕ) (rows : Six) → Cut G m n k first callers
      → ((c : ℕ) → get_or old c 0 ≤ limits.max_states) → RanksWritten first callers (n + 1) old ranks → Says G m rows
      → q ≡ length (spots limits G (suc m)) → limits.max_states ≤ length spare → ((c : ℕ) → get_or spare c 0 ≤ limits.max_states)
      → Filled spare passed q (λ p. get_or ranks (get_or rows.down p 0) 0) → RanksOf G (suc m) passed
  ranks_next m n k q starts callers old ranks spare passed rows C low R X s long few F = record {
    are = λ i h cs w.
        let a = apart G W g refl in
        let u = (under-test (is_live limits G (suc i)) (chains limits G (suc (suc m)) (suc i))).0 w in
        let c = (chains_exact limits G W a (suc (suc m)) (suc i) cs (omega (arith, h))).0 u.1 in
        let t = caller_state limits G W a (suc m) c in
        let p = number_of limits G (suc m) (caller_of cs) in
        let l = place_mem_below t in
        let ds = take (suc m) cs in
        let v = (chains_exact limits G W a (suc m) (suc i) ds (omega (arith, h))).1 (shorten limits G c) in
        F.inside p (omega (arith, l, s))
        ∙ ap (λ d. get_or ranks d 0) (X.down p l ∙ ap (λ t. number_of limits G m (dropped m t)) (seen_state limits G W a (suc m) t) ∙ ap (number_of limits G m) (dropped_caller m cs))
        ∙ rank-written m n k starts callers old ranks C R i h ds v
        ∙ ap (λ b. rank ds (when b (chains limits G (suc m) (suc i)))) (sym u.0);
    start =
        let l = some-spots G (suc m) in
        F.inside 0 (omega (arith, l, s))
        ∙ ap (λ d. get_or ranks d 0) (X.down 0 l ∙ ap (λ t. number_of limits G m (dropped m t)) (spots-first G (suc m)) ∙ number_first limits G W (apart G W g refl) m)
        ∙ start_ranked G m n k starts callers old ranks C R;
    long = omega (arith, long, F.size);
    little = λ c. elim (dec_lt c q) [
      | yes h ↦ let z = F.inside c h in let y = R.little low (get_or rows.down c 0) in omega (arith, z, y)
      | no h ↦ let z = F.outside c (omega (arith, h)) in let y = few c in omega (arith, z, y)
    ];
  }
