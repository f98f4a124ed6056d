-- The codes of the module's symbols among the joined ones, by the numbers counted off. Assumes nothing.
use Prim.Native.Nat.{ℕ, zero, suc, ◌+◌, ◌-◌, ◌<◌}
use mathlib.Core.Path.{◌≡◌, refl, ap, sym, ◌∙◌}
use mathlib.Core.Bool.{true, false}
use mathlib.Core.List.{List, [], ◌∷◌, ◌++◌, map}
use native.Mathlib.Omega.{arith}
use borrow.Author.Tests.{lt-ltb, le-ltb}
use lib.ListN.{length, get_or}
use Rattle.grammar.specs.Limits.{Limits}
use Rattle.grammar.specs.Grammar.{Terminal, Nonterminal, start}
use Rattle.text.specs.Names.{any, same_name, has_double, place}
use Rattle.text.specs.Read.{Source, symbol_names, number_of, code_of, symbol_of}
use Rattle.text.specs.Print.{name_of}
use Rattle.text.proofs.Names.{double_front}
use Rattle.text.proofs.WellNamed.{WellNamedSource}
use Rattle.modules.specs.Joined.{meet, added, joined_terminals, joined_nonterminals, joined_code}
use Rattle.joining.specs.Numbers.{numbered}
use Rattle.modules.proofs.Meets.{any_append, any-added, meet-sym, double_back, double_meet}
use Rattle.modules.proofs.Named.{covered, place-some, meet-at, get_d_front, get_d_past}
use Rattle.joining.proofs.Numbers.{numbers-right, place-front, place_after}

get_d_map : (f : List ℕ → ℕ) (xs : List (List ℕ)) (i : ℕ) → i < length xs → get_or (map f xs) i 0 ≡ f (get_or xs i [])
get_d_map f [] i h = absurd (omega arith)
get_d_map f (x ∷ xs) zero h = refl
get_d_map f (x ∷ xs) (suc i) h = get_d_map f xs i (omega arith)

-- the number counted off for the name at a place
pub number_at : (names xs : List (List ℕ)) (i : ℕ) → has_double xs ≡ false → i < length xs
    → get_or (numbered names (length names) xs) i 0 ≡ place (same_name (get_or xs i [])) (names ++ added names xs)
number_at names xs i o h =
    ap (λ (ns : List ℕ). get_or ns i 0) (numbers-right names xs o) ∙ get_d_map (λ x. place (same_name x) (names ++ added names xs)) xs i h

module _ (L : Limits) (robot addon : Source) (wm : WellNamedSource L addon) (second : meet addon.nonterminals robot.terminals ≡ false) (low : length addon.terminals < start L) where
  abbrev rt : List (List ℕ)
  rt = robot.terminals

  abbrev rn : List (List ℕ)
  rn = robot.nonterminals

  abbrev mt : List (List ℕ)
  mt = addon.terminals

  abbrev mn : List (List ℕ)
  mn = addon.nonterminals

  -- a terminal's code
  pub terminal-code : (c : ℕ) → Terminal (length mt) c → joined_code L robot addon c ≡ get_or (numbered rt (length rt) mt) (c - 1) 0 + 1
  unfolding code_of number_of name_of symbol_of
  terminal-code c h =
      let i = c - 1 in
      let l : i < length mt = omega (arith, h.0, h.1) in
      let x = get_or mt i [] in
      let k : any (same_name x) (joined_terminals robot addon) ≡ true = covered rt mt i l in
      let p : place (same_name x) (joined_terminals robot addon ++ joined_nonterminals robot addon) ≡ place (same_name x) (joined_terminals robot addon)
      = place-front (same_name x) (joined_terminals robot addon) (joined_nonterminals robot addon) k in
      let q = place-some (same_name x) (joined_terminals robot addon) k in
      rw (lt-ltb c (start L) (omega (arith, h.1, low)), get_d_front mt mn i l, p, lt-ltb (place (same_name x) (joined_terminals robot addon)) (length (joined_terminals robot addon)) q)
      (ap (λ (n : ℕ). n + 1) (sym (number_at rt mt i (double_front mt mn wm.once) l)))

  -- a nonterminal's code
  pub nonterminal-code : (c : ℕ) → Nonterminal L (length mn) c → joined_code L robot addon c ≡ start L + get_or (numbered rn (length rn) mn) (c - start L) 0
  unfolding code_of number_of name_of symbol_of
  nonterminal-code c h =
      let i = c - start L in
      let l : i < length mn = omega (arith, h.0, h.1) in
      let x = get_or mn i [] in
      let t = length (joined_terminals robot addon) in
      let g : get_or (symbol_names addon) (length mt + i) [] ≡ x
      = get_d_past mt mn (length mt + i) (omega arith) ∙ ap (λ (j : ℕ). get_or mn j []) (let z : length mt + i - length mt ≡ i = omega arith in z) in
      let a = meet-at mn rt i second l in
      let b = any-added (same_name x) rt mt (meet-at mn mt i (meet-sym mt mn (double_meet mt mn wm.once)) l) in
      let p : place (same_name x) (joined_terminals robot addon ++ joined_nonterminals robot addon) ≡ t + place (same_name x) (joined_nonterminals robot addon)
      = place_after (same_name x) (joined_terminals robot addon) (joined_nonterminals robot addon) (any_append (same_name x) rt (added rt mt) a b) in
      rw (le-ltb c (start L) h.0, g, p, le-ltb (t + place (same_name x) (joined_nonterminals robot addon)) t (omega arith))
      (ap (λ (n : ℕ). start L + n)
      ((let z : t + place (same_name x) (joined_nonterminals robot addon) - t ≡ place (same_name x) (joined_nonterminals robot addon) = omega arith in z)
      ∙ sym (number_at rn mn i (double_back mt mn wm.once) l)))
