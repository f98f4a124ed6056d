-- A tree that is to have more names: where planting begins, a tree of the first names of longer rows, and names that are all planted.
-- Assumes nothing.
use Prim.Native.Nat.{ℕ, ◌*◌, ◌≤◌, ◌<◌}
use mathlib.Core.Path.{◌≡◌, ap₂, sym, subst, ◌∙◌}
use mathlib.Core.List.{List}
use mathlib.Core.Bool.{false}
use native.Mathlib.Omega.{arith}
use lib.ListN.{length, drop, take}
use lib.Seq.{get_or-take, length-take-le}
use Rattle.text.specs.Names.{same_name, has_double}
use Rattle.text.specs.Spelled.{spelled}
use Rattle.text.proofs.Spans.{length-spelled}
use Rattle.text.proofs.Gather.{first_double_lem}
use Rattle.lexicon.specs.Tree.{folded_name, name_of, Spans, Below, Grown, most_names, Lexicon, Planted}
use Rattle.lexicon.proofs.Tree.{grown_one}
use Rattle.lexicon.proofs.Numbers.{double_at}

-- the tree has the names before k, and name 0 among them
pub record Begun (text starts lengths links : List ℕ) (k : ℕ) : Type 0 where
  pub low : 1 ≤ k
  pub high : k ≤ length starts
  pub grown : Grown (name_of text starts lengths) links k
  pub apart : (i j : ℕ) → i < j → j < k → same_name (name_of text starts lengths j) (name_of text starts lengths i) ≡ false

module _ (text starts lengths links : List ℕ) (from : ℕ) (p : Planted text starts lengths links from) where
  -- the first name is put in as the root
  pub begun-root : from ≡ 0 → 0 < length starts → Begun text starts lengths links 1
  begun-root e h = record {
    low = omega arith;
    high = omega arith;
    grown = grown_one (name_of text starts lengths) links (p.bare e);
    apart = λ i j l m. absurd (omega arith);
  }

  -- names are there already
  pub begun-later : 0 < from → Begun text starts lengths links from
  begun-later h = record { low = omega arith; high = p.near; grown = p.grown h; apart = p.apart }

-- names that agree have the same tree
grown_names : (f g : ℕ → List ℕ) (C : List ℕ) (count : ℕ) → ((s : ℕ) → s < count → f s ≡ g s) → Grown f C count → Grown g C count
grown_names f g C count e h = record {
  root = h.root;
  link = h.link;
  forward = h.forward;
  held = λ s l. subst (λ (x : List ℕ). Below C (folded_name x) s 0 0) (e s l) (h.held s l);
}

name-front : (text starts lengths : List ℕ) (k i : ℕ) → i < k → name_of text (take k starts) (take k lengths) i ≡ name_of text starts lengths i
unfolding name_of
name-front text starts lengths k i h = ap₂ (λ (l s : ℕ). take l (drop s text)) (get_or-take k lengths i 0 h) (get_or-take k starts i 0 h)

-- a tree of the first names, to which the others may be put
pub planted-front : (text starts lengths links : List ℕ) (k : ℕ) → Spans text starts lengths → length starts ≤ most_names → 2 * length starts ≤ length links
    → k ≤ length starts → Lexicon text (take k starts) (take k lengths) links → Planted text starts lengths links k
planted-front text starts lengths links k spans few room near x =
    let n : length (take k starts) ≡ k = length-take-le k starts near in
    let name : (i : ℕ) → i < k → name_of text (take k starts) (take k lengths) i ≡ name_of text starts lengths i = λ i l. name-front text starts lengths k i l in
    record {
      spans = spans;
      few = few;
      room = room;
      near = near;
      bare = λ e. x.bare (n ∙ e);
      grown = λ h. grown_names (name_of text (take k starts) (take k lengths)) (name_of text starts lengths) links k name
          (subst (λ (m : ℕ). Grown (name_of text (take k starts) (take k lengths)) links m) n (x.grown (omega (arith, n))));
      apart = λ i j h l. ap₂ (λ (u v : List ℕ). same_name u v) (sym (name j l)) (sym (name i (omega arith))) ∙ x.apart i j h (omega (arith, n));
    }

-- no name of the tree stands twice
pub lexicon_once : (text starts lengths links : List ℕ) → Lexicon text starts lengths links → has_double (spelled text starts lengths) ≡ false
lexicon_once text starts lengths links x =
    (first_double_lem (spelled text starts lengths)).0
    (double_at text starts lengths x.spans (length starts) (omega arith) x.apart (λ h. absurd (omega (arith, h)))
    ∙ sym (length-spelled text starts lengths x.spans.paired))
