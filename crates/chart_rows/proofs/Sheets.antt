-- The rows of a grammar show its places: leads, links and homes by the codes ahead and the classes. Assumes nothing.
use Prim.Native.Nat.{ℕ, ◌+◌, ◌-◌, ◌*◌, ◌≤◌, ◌<◌}
use mathlib.Core.Path.{◌≡◌, refl, sym, ap, ap₂, subst, ◌∙◌}
use mathlib.Core.Bool.{Bool, true, false, ◌&&◌}
use mathlib.Core.List.{List, []}
use native.Mathlib.Omega.{arith}
use native.Mathlib.Decide.{ℕ_discrete}
use lib.Dec.{ltb, leb}
use lib.ListN.{length, get_or}
use borrow.Author.Tests.{le-leb, lt-ltb, leb-true, ltb-true}
use Rattle.grammar.specs.Basics.{choose}
use Rattle.grammar.specs.Limits.{limits}
use Rattle.grammar.specs.Grammar.{Grammar, IsRule, rule, start, WellFormed}
use Rattle.grammar.proofs.Answers.{and_both}
use Rattle.automaton.specs.Items.{base, states}
use Rattle.automaton.proofs.Items.{base-rule, item_below, states_four}
use Rattle.tree_laws.proofs.Places.{ahead_row}
use Rattle.chart.specs.Rows.{home_of, Wired}
use Rattle.chart.specs.Filling.{Sheet}
use Rattle.chart_rows.specs.Wiring.{lead_of, Leads, Links, Homes}
use Rattle.chart_rows.proofs.PlaceLaws.{Same, P, P-first, code_at, one, rest-root, rest-zero, rest_end, code-none, inside_of, inside-code, inside_range, inside-symbol, codes-of, left-low, base-below, first_once, before-first}
use Rattle.chart_rows.proofs.ClassLaws.{members, targets, EndOf, BeginOf, end-of, begin-of, end_class, begin_class}

-- the rows as the code leaves them
module _ (G : Grammar) (W : WellFormed limits G) (ahead member target lead next head home : List ℕ)
    (ra : Same (states G) ahead (ahead_row limits G)) (rm : Same (states G) member (members G)) (rt : Same (states G) target (targets G))
    (L : Leads target G.nonterminals (states G) lead) (K : Links ahead (states G) next head) (H : Homes member G.nonterminals (states G) home) where
  abbrev n : ℕ
  n = G.nonterminals

  -- a home is the end of a rule of its nonterminal
  home_end : (b : ℕ) → 1 ≤ home_of home b → (start limits ≤ b) × EndOf G (home_of home b) (b - start limits)
  unfolding home_of
  home_end b h = go (leb (start limits) b) refl h
    where
      go : (t : Bool) → leb (start limits) b ≡ t → 1 ≤ choose t (get_or home (b - start limits) 0) 0 → (start limits ≤ b) × EndOf G (choose t (get_or home (b - start limits) 0) 0) (b - start limits)
      go false e l = absurd (omega arith)
      go true e l =
          let y = H.same (b - start limits) l in
          (leb-true (start limits) b e, end-of G W (get_or home (b - start limits) 0) (b - start limits) y.2 (sym (rm (get_or home (b - start limits) 0) y.2) ∙ y.0) y.1)

  home_of_lem : (b : ℕ) → start limits ≤ b → home_of home b ≡ get_or home (b - start limits) 0
  unfolding home_of
  home_of_lem b h = ap (λ t. choose t (get_or home (b - start limits) 0) 0) (le-leb (start limits) b h)

  -- a rule's first state has its left side as lead, and only such states have leads
  lead_at : (r : ℕ) → IsRule G r → get_or lead (base limits G r) 0 ≡ (rule limits G r).left
  unfolding lead_of
  lead_at r h =
      let b = base-below G W r h.1 in
      let l = left-low G W r h in
      let z : get_or target (base limits G r) 0 ≡ (rule limits G r).left - start limits + (n + 1) = rt (base limits G r) b ∙ begin_class G W r h in
      L (base limits G r) b ∙ ap (lead_of n) z
      ∙ ap₂ (λ s t. choose (s && t) ((rule limits G r).left - start limits + (n + 1) - (n + 1) + start limits) 0)
      (le-leb (n + 1) ((rule limits G r).left - start limits + (n + 1)) (omega arith)) (lt-ltb ((rule limits G r).left - start limits + (n + 1)) (2 * n + 1) (omega arith))
      ∙ omega arith

  lead_some : (p : ℕ) → p < states G → 1 ≤ get_or lead p 0 → BeginOf G p (get_or (targets G) p 0) × (get_or lead p 0 ≡ get_or (targets G) p 0 - (n + 1) + start limits)
  unfolding lead_of
  lead_some p h g = go (leb (n + 1) (get_or (targets G) p 0) && ltb (get_or (targets G) p 0) (2 * n + 1)) refl
    where
      e : get_or lead p 0 ≡ lead_of n (get_or (targets G) p 0)
      e = L p h ∙ ap (lead_of n) (rt p h)

      go : (t : Bool) → (leb (n + 1) (get_or (targets G) p 0) && ltb (get_or (targets G) p 0) (2 * n + 1)) ≡ t → BeginOf G p (get_or (targets G) p 0) × (get_or lead p 0 ≡ get_or (targets G) p 0 - (n + 1) + start limits)
      go true q =
          let b = and_both (leb (n + 1) (get_or (targets G) p 0)) (ltb (get_or (targets G) p 0) (2 * n + 1)) q in (
            begin-of G W p (get_or (targets G) p 0) h refl (leb-true (n + 1) (get_or (targets G) p 0) b.0) (omega (arith, ltb-true (get_or (targets G) p 0) (2 * n + 1) b.1)),
            e ∙ ap (λ t. choose t (get_or (targets G) p 0 - (n + 1) + start limits) 0) q,
          )
      go false q = absurd (omega (arith, g, e ∙ ap (λ t. choose t (get_or (targets G) p 0 - (n + 1) + start limits) 0) q))

  pub sheet : Sheet G (P G W) (states G) ahead lead home
  sheet = record {
    well_formed = W;
    code = λ p h. ra p h ∙ sym (code_at G W p);
    range = λ p x α e. inside_range G W p x (inside_of G W p x α e);
    symbol = λ p x α e. (one G W p x α e, inside-symbol G W p x (inside_of G W p x α e));
    once = first_once G W;
    before = before-first G W;
    begins = λ r h. (subst (λ z. z < states G) (sym (P-first G W r)) (base-below G W r h.1), ap (λ z. get_or lead z 0) (P-first G W r) ∙ lead_at r h);
    leads = λ p h g. let y = lead_some p h g in (y.0.number, (y.0.stored, P-first G W y.0.number ∙ y.0.state, y.0.left ∙ sym y.1));
    homed = λ r h. four (rule limits G r).left (has_home r h);
    home_four = four;
    home_end = λ b. elim (ℕ_discrete (home_of home b) 0) [
      | yes o ↦ ap (P G W).rest o ∙ rest-zero G W
      | no o ↦ let y = (home_end b (omega arith)).1 in ap (P G W).rest y.state ∙ rest_end G W y.number y.stored.1
    ];
    home_once = λ a b h e.
        let y = home_end b h in
        let x = home_end a (omega arith) in
        same_code a b x.0 y.0 (member_of_lem a (omega arith)) (member_of_lem b h) e;
    homeless = λ b h. elim (ℕ_discrete (home_of home b) 0) [
      | yes o ↦ o
      | no o ↦ let y = home_end b (omega arith) in absurd (h y.1.number y.1.stored (omega (arith, y.1.left, y.0)))
    ];
    root = rest-root G W;
    ends = rest-three;
  }
    where
      has_home : (r : ℕ) → IsRule G r → 1 ≤ home_of home (rule limits G r).left
      has_home r h =
          let l = left-low G W r h in
          let s = base limits G r + length (rule limits G r).right in
          let b : s < states G = item_below limits G {p = s} {i = r} {d = length (rule limits G r).right} (record { rule = h.1; dot = omega arith; state = refl }) in
          omega (arith, home_of_lem (rule limits G r).left l.0, H.most s ((rule limits G r).left - start limits) (omega (arith, base-rule limits G r h.0)) b (rm s b ∙ end_class G W r h) (omega (arith, l)))

      four : (b : ℕ) → 1 ≤ home_of home b → 4 ≤ home_of home b
      four b h = let y = (home_end b h).1 in omega (arith, y.state, base-rule limits G y.number y.stored.0)

      member_of_lem : (b : ℕ) → 1 ≤ home_of home b → get_or member (home_of home b) 0 ≡ b - start limits
      member_of_lem b h =
          let y = home_end b h in
          let e = home_of_lem b y.0 in
          ap (λ z. get_or member z 0) e ∙ (H.same (b - start limits) (omega arith)).0

      same_code : (a b : ℕ) → start limits ≤ a → start limits ≤ b → get_or member (home_of home a) 0 ≡ a - start limits → get_or member (home_of home b) 0 ≡ b - start limits → home_of home a ≡ home_of home b → a ≡ b
      same_code a b h g x y e = omega (arith, x, y, ap (λ z. get_or member z 0) e)

      rest-three : (P G W).rest 3 ≡ []
      rest-three = (P G W).on 2 (start limits) [] (rest-root G W)

  pub wired : Wired (states G) ahead lead next head home
  wired = record {
    ready = record { few = W.size; four = states_four limits G; codes = codes-of G W ahead ra; homes = homes };
    linked = record {
      few = W.size;
      front = ra 0 (omega (arith, states_four limits G)) ∙ code-none G W 0 (rest-zero G W);
      heads = heads;
      nexts = λ p h g. K.nexts p h;
      head-most = K.head-most;
      head-same = λ c h. (K.head-same c h).0;
      next-most = K.next-most;
      next-same = λ p h g. K.next-same p g;
    };
    lead_low = λ p h g. let y = lead_some p h g in omega (arith, y.1);
    lead_high = λ p h. elim (ℕ_discrete (get_or lead p 0) 0) [
      | yes o ↦ omega arith
      | no o ↦ let y = lead_some p h (omega arith) in omega (arith, y.0.left, y.1, left-low G W y.0.number y.0.stored, W.nonterminals.1)
    ];
  }
    where
      homes : (c : ℕ) → get_or home c 0 < states G
      homes c = elim (ℕ_discrete (get_or home c 0) 0) [ yes o ↦ omega (arith, states_four limits G) | no o ↦ (H.same c (omega arith)).2 ]

      heads : (c : ℕ) → get_or head c 0 + 1 < states G
      heads c = elim (ℕ_discrete (get_or head c 0) 0) [
        | yes o ↦ omega (arith, states_four limits G)
        | no o ↦
            let y = K.head-same c (omega arith) in
            let t = inside-code G W (get_or head c 0) (λ z. omega (arith, z, y.0, ra (get_or head c 0) y.1)) in
            omega (arith, inside_range G W (get_or head c 0) (get_or (ahead_row limits G) (get_or head c 0) 0) t)
      ]
