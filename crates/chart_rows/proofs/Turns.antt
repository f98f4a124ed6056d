-- Leads, links and homes, state by state. Assumes nothing.
use Prim.Native.Nat.{ℕ, ◌+◌, ◌-◌, ◌≤◌, ◌<◌}
use mathlib.Core.Path.{◌≡◌, sym, ap, subst, subst₂, ◌∙◌}
use mathlib.Core.List.{List}
use native.Mathlib.Omega.{arith}
use native.Mathlib.Decide.{ℕ_discrete}
use mathlib.Core.Logic.{inl, inr}
use Rattle.grammar.proofs.Lists.{lt_or_le}
use lib.ListN.{length, get_or, set}
use lib.Seq.{get_or-set_same, get_or-set_other}
use Rattle.grammar.specs.Limits.{limits}
use Rattle.grammar.specs.Grammar.{start}
use Rattle.chart_rows.specs.Wiring.{Zeros, lead_of, Leads, Links, Homes}

pub leads_more : (target lead : List ℕ) (n p v : ℕ) → p < length lead → v ≡ lead_of n (get_or target p 0) → Leads target n p lead
    → Leads target n (p + 1) (set lead p v)
leads_more target lead n p v h e L s g = elim (ℕ_discrete s p) [
  | yes f ↦ ap (λ z. get_or (set lead p v) z 0) f ∙ get_or-set_same lead p v 0 h ∙ e ∙ ap (λ z. lead_of n (get_or target z 0)) (sym f)
  | no f ↦ get_or-set_other lead p s v 0 f ∙ L s (omega arith)
]

pub links-start : (ahead next head : List ℕ) → Zeros next → Zeros head → Links ahead 0 next head
links-start ahead next head x y = record {
  head-most = λ s c h e. absurd (omega arith);
  head-same = λ c h. absurd (omega (arith, y c));
  nexts = λ s h. omega (arith, x s);
  next-most = λ t s h g i e. absurd (omega arith);
  next-same = λ s h. absurd (omega (arith, x s));
  later = λ s h. x s;
}

-- a state before no nonterminal
links_skip : (ahead next head : List ℕ) (p : ℕ) → get_or ahead p 0 < start limits → Links ahead p next head → Links ahead (p + 1) next head
links_skip ahead next head p h L = record {
  head-most = λ s c g e. elim (ℕ_discrete s p) [ yes f ↦ absurd (omega (arith, e, ap (λ z. get_or ahead z 0) f)) | no f ↦ L.head-most s c (omega arith) e ];
  head-same = λ c g. ((L.head-same c g).0, omega (arith, (L.head-same c g).1));
  nexts = L.nexts;
  next-most = λ t s g i o e. elim (ℕ_discrete s p) [ yes f ↦ absurd (omega (arith, o, ap (λ z. get_or ahead z 0) f)) | no f ↦ L.next-most t s g (omega arith) o e ];
  next-same = L.next-same;
  later = λ s g. L.later s (omega arith);
}

-- a state before the nonterminal start + c
links-more : (ahead next head : List ℕ) (p c : ℕ) → p < length next → c < length head → get_or ahead p 0 ≡ start limits + c → 1 ≤ p
    → Links ahead p next head → Links ahead (p + 1) (set next p (get_or head c 0)) (set head c p)
links-more ahead next head p c h g e o L = record {
  head-most = λ s d i q. elim (ℕ_discrete d c) [
    | yes f ↦ omega (arith, i, ap (λ z. get_or (set head c p) z 0) f, get_or-set_same head c p 0 g)
    | no f ↦ omega (arith, get_or-set_other head c d p 0 f, L.head-most s d (below s d i q f) q)
  ];
  head-same = λ d i. elim (ℕ_discrete d c) [
    | yes f ↦ let z : get_or (set head c p) d 0 ≡ p = ap (λ z. get_or (set head c p) z 0) f ∙ get_or-set_same head c p 0 g in
        (ap (λ k. get_or ahead k 0) z ∙ e ∙ ap (λ k. start limits + k) (sym f), omega arith)
    | no f ↦ let z : get_or (set head c p) d 0 ≡ get_or head d 0 = get_or-set_other head c d p 0 f in
        let y = L.head-same d (omega arith) in
        (ap (λ k. get_or ahead k 0) z ∙ y.0, omega (arith, y.1))
  ];
  nexts = λ s i. elim (ℕ_discrete s p) [
    | yes f ↦ omega (arith, ap (λ z. get_or (set next p (get_or head c 0)) z 0) f, get_or-set_same next p (get_or head c 0) 0 h, lower)
    | no f ↦ omega (arith, get_or-set_other next p s (get_or head c 0) 0 f, L.nexts s i)
  ];
  next-most = λ t s i k q y. elim (ℕ_discrete s p) [
    | yes f ↦ omega (arith, ap (λ z. get_or (set next p (get_or head c 0)) z 0) f, get_or-set_same next p (get_or head c 0) 0 h, L.head-most t c (omega arith) (y ∙ ap (λ z. get_or ahead z 0) f ∙ e))
    | no f ↦ omega (arith, get_or-set_other next p s (get_or head c 0) 0 f, L.next-most t s i (omega arith) q y)
  ];
  next-same = λ s i. elim (ℕ_discrete s p) [
    | yes f ↦ let z : get_or (set next p (get_or head c 0)) s 0 ≡ get_or head c 0 = ap (λ z. get_or (set next p (get_or head c 0)) z 0) f ∙ get_or-set_same next p (get_or head c 0) 0 h in
        ap (λ k. get_or ahead k 0) z ∙ (L.head-same c (omega arith)).0 ∙ sym e ∙ ap (λ k. get_or ahead k 0) (sym f)
    | no f ↦ let z : get_or (set next p (get_or head c 0)) s 0 ≡ get_or next s 0 = get_or-set_other next p s (get_or head c 0) 0 f in
        ap (λ k. get_or ahead k 0) z ∙ L.next-same s (omega arith)
  ];
  later = λ s i. get_or-set_other next p s (get_or head c 0) 0 (λ f. omega arith) ∙ L.later s (omega arith);
}
  where
    lower : get_or head c 0 < p
    lower = elim (ℕ_discrete (get_or head c 0) 0) [ yes f ↦ omega arith | no f ↦ (L.head-same c (omega arith)).1 ]

    below : (s d : ℕ) → s < p + 1 → get_or ahead s 0 ≡ start limits + d → (d ≡ c → ⊥) → s < p
    below s d i q f = elim (ℕ_discrete s p) [ yes y ↦ absurd (f (omega (arith, q, e, ap (λ z. get_or ahead z 0) y))) | no y ↦ omega arith ]

pub homes_start : (member home : List ℕ) (n : ℕ) → Zeros home → Homes member n 0 home
homes_start member home n x = record { same = λ c h. absurd (omega (arith, x c)); most = λ s c h g. absurd (omega arith) }

homes_skip : (member home : List ℕ) (n p : ℕ) → n ≤ get_or member p 0 → Homes member n p home → Homes member n (p + 1) home
homes_skip member home n p h H = record {
  same = λ c g. let y = H.same c g in (y.0, y.1, omega (arith, y.2));
  most = λ s c o g e l. elim (ℕ_discrete s p) [ yes f ↦ absurd (omega (arith, e, ap (λ z. get_or member z 0) f)) | no f ↦ H.most s c o (omega arith) e l ];
}

homes_more : (member home : List ℕ) (n p c : ℕ) → c ≡ get_or member p 0 → c < n → c < length home → 1 ≤ p → Homes member n p home
    → Homes member n (p + 1) (set home c p)
homes_more member home n p c e h g o H = record {
  same = λ d i. elim (ℕ_discrete d c) [
    | yes f ↦ let z : get_or (set home c p) d 0 ≡ p = ap (λ z. get_or (set home c p) z 0) f ∙ get_or-set_same home c p 0 g in
        (ap (λ k. get_or member k 0) z ∙ sym e ∙ sym f, omega arith, omega arith)
    | no f ↦ let z : get_or (set home c p) d 0 ≡ get_or home d 0 = get_or-set_other home c d p 0 f in
        let y = H.same d (omega arith) in
        (ap (λ k. get_or member k 0) z ∙ y.0, y.1, omega (arith, y.2))
  ];
  most = λ s d i k q l. elim (ℕ_discrete d c) [
    | yes f ↦ omega (arith, ap (λ z. get_or (set home c p) z 0) f, get_or-set_same home c p 0 g)
    | no f ↦ omega (arith, get_or-set_other home c d p 0 f, H.most s d i (elim (ℕ_discrete s p) [ yes y ↦ absurd (f (sym q ∙ ap (λ z. get_or member z 0) y ∙ sym e)) | no y ↦ omega arith ]) q l)
  ];
}

-- what the code does for a state
pub links-turn : (ahead next head next' head' : List ℕ) (p x : ℕ) → x ≡ get_or ahead p 0 → get_or ahead 0 0 < start limits
    → p < length next → x < start limits + length head → (x < start limits → (next' ≡ next) × (head' ≡ head))
    → (start limits ≤ x → (next' ≡ set next p (get_or head (x - start limits) 0)) × (head' ≡ set head (x - start limits) p))
    → Links ahead p next head → Links ahead (p + 1) next' head'
links-turn ahead next head next' head' p x e z h g a b L = elim (lt_or_le x (start limits)) [
  | inl o ↦ subst₂ (Links ahead (p + 1)) (sym (a o).0) (sym (a o).1) (links_skip ahead next head p (omega arith) L)
  | inr o ↦ subst₂ (Links ahead (p + 1)) (sym (b o).0) (sym (b o).1) (links-more ahead next head p (x - start limits) h (omega arith) (omega arith) (some o) L)
]
  where
    some : start limits ≤ x → 1 ≤ p
    some o = elim (ℕ_discrete p 0) [ yes f ↦ absurd (omega (arith, ap (λ k. get_or ahead k 0) f)) | no f ↦ omega arith ]

pub homes_turn : (member home home' : List ℕ) (n p y : ℕ) → y ≡ get_or member p 0 → n ≤ get_or member 0 0 → n ≤ length home
    → (y < n → home' ≡ set home y p) → (n ≤ y → home' ≡ home) → Homes member n p home → Homes member n (p + 1) home'
homes_turn member home home' n p y e z h a b H = elim (lt_or_le y n) [
  | inl o ↦ subst (Homes member n (p + 1)) (sym (a o)) (homes_more member home n p y e o (omega arith) (some o) H)
  | inr o ↦ subst (Homes member n (p + 1)) (sym (b o)) (homes_skip member home n p (omega arith) H)
]
  where
    some : y < n → 1 ≤ p
    some o = elim (ℕ_discrete p 0) [ yes f ↦ absurd (omega (arith, ap (λ k. get_or member k 0) f)) | no f ↦ omega arith ]

-- the states below p are wired, and the rows are as long as they were
pub record WiredTo (ahead member target : List ℕ) (n : ℕ) (lead₀ next₀ head₀ home₀ lead next head home : List ℕ) (p : ℕ) : Type 0 where
  pub leads : Leads target n p lead
  pub links : Links ahead p next head
  pub homes : Homes member n p home
  pub lead_long : length lead ≡ length lead₀
  pub next-long : length next ≡ length next₀
  pub head-long : length head ≡ length head₀
  pub home_long : length home ≡ length home₀
