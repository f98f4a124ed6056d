-- A finished search has found the smallest closed set, with all its successors counted, and the shortest way to (1,1,1). Assumes
-- nothing.
use mathlib.Core.Path.{◌≡◌, refl, ap, ap₂, sym, subst, ◌∙◌}
use mathlib.Core.Logic.{◌↔◌}
use mathlib.Core.Bool.{Bool, true, false}
use mathlib.Core.List.{List, [], ◌∷◌}
use Prim.Native.Nat.{ℕ, zero, suc, ◌+◌, ◌*◌, ◌/◌, ◌%◌, ◌^◌, ◌≤◌, ◌<◌}
use native.Mathlib.Omega.{arith}
use native.Mathlib.Nat.{pow-zero, pow-succ', div-one, div-div-eq-div-mul, mul-le-mul}
use native.Mathlib.Decide.{ℕ_discrete}
use lib.ListN.{length, get_or, take, drop, replicate}
use lib.Seq.{length-take-le, get_or-take, take-suc, drop-cons}
use borrow.Author.Tests.{eq-eqb}
use Rattle.grammar.specs.Basics.{choose, Mem, over, Distinct, more as fresh}
use Rattle.grammar.specs.Refusal.{done, witness_wrong}
use Rattle.grammar.proofs.Answers.{no_bool, unless_holds}
use Rattle.automaton.specs.Moves.{Moves, Regular}
use Rattle.triples.specs.Index.{index, triple_count}
use Rattle.triples.specs.Smallest.{is_element, successors, smallest, size}
use Rattle.triples.specs.Certificate.{byte_count, bit, is_set, bits_from, bytes_from, certificate_of}
use Rattle.triples.specs.Witness.{check_on, check_row}
use Rattle.triples.specs.Shortest.{shortest}
use Rattle.triples.specs.Looked.{total, looked_at}
use Rattle.triples.proofs.Index.{index_below}
use Rattle.triple_laws.proofs.Members.{mem_place, place_mem}
use Rattle.triple_laws.proofs.Explore.{is_element_lem, not_element, explore-start, explore-closed, explore_least}
use Rattle.triple_laws.proofs.Lowest.{set-bit, clear_bit}
use Rattle.triple_laws.proofs.CertificateCheck.{bits_fit, index-zero}
use Rattle.triple_laws.proofs.Records.{successors-below}
use Rattle.triple_laws.proofs.Laws.{size_cardinal, smallest_distinct}
use Rattle.figures.specs.Sum.{sum}
use Rattle.figures.proofs.Sums.{sum_same, total_append, total-same}
use Rattle.figures.proofs.Shortest.{Leads}
use Rattle.figures.proofs.ShortestLaws.{accepted_leads, shortest-only}
use Rattle.figures.proofs.Found.{Way, start, more}
use Rattle.figures.proofs.Row.{onto, row-fewest}
use Rattle.plans.specs.Plan.{Rows}
use Rattle.plans.specs.Clauses.{Planned}
use Rattle.clearing.proofs.Laws.{cleared-same}
use Rattle.search.specs.Promise.{Told, is_potential, lent, cleared}
use Rattle.explore.specs.State.{State, used, flag_base, plan, looked_in, NextOf, Marked, Explored}
use Rattle.search.specs.Finish.{Ahead, here, back, Answered}
use Rattle.search.specs.declared.SearchVerdict.{SearchVerdict}
use Rattle.search.specs.declared.SearchVerdict.TheVariants.{Unambiguous, Potential, Refused}

-- a number of c bits is that of the indices that these bits tell
bits_are : (held : List ℕ) (c i x : ℕ) → x < 2 ^ c
    → ((k : ℕ) → k < c → x / 2 ^ k % 2 ≡ choose (is_element (i + k) held) 1 0) → x ≡ bits_from held i c
unfolding bits_from
bits_are held zero i x h e = let z : x < 1 = subst (λ (y : ℕ). x < y) (pow-zero 2) h in omega arith
bits_are held (suc c) i x h e =
    let z : x < 2 * 2 ^ c = subst (λ (y : ℕ). x < y) (pow-succ' 2 c) h in
    let low : x % 2 ≡ choose (is_element i held) 1 0
    = ap (λ (y : ℕ). y % 2) (sym (div-one x)) ∙ ap (λ (y : ℕ). x / y % 2) (sym (pow-zero 2)) ∙ e 0 (omega arith)
    ∙ ap (λ (j : ℕ). choose {A = ℕ} (is_element j held) 1 0) (let q : i + 0 ≡ i = omega arith in q) in
    let high : x / 2 ≡ bits_from held (suc i) c
    = bits_are held c (suc i) (x / 2) (omega arith) (λ k l.
    ap (λ (y : ℕ). y % 2) (div-div-eq-div-mul x 2 (2 ^ k)) ∙ ap (λ (y : ℕ). x / y % 2) (sym (pow-succ' 2 k)) ∙ e (suc k) (omega arith)
    ∙ ap (λ (j : ℕ). choose {A = ℕ} (is_element j held) 1 0) (let q : i + suc k ≡ suc i + k = omega arith in q)) in
    halves x (choose (is_element i held) 1 0) (bits_from held (suc i) c) low high
  where
    halves : (x a b : ℕ) → x % 2 ≡ a → x / 2 ≡ b → x ≡ a + 2 * b
    halves x a b p q = omega arith

-- m bytes from byte b on are those of the indices that their bits tell
bytes_are : (held marks : List ℕ) (m b : ℕ) → b + m ≤ length marks → ((a : ℕ) → get_or marks a 0 < 256)
    → ((i : ℕ) → i < 8 * (b + m) → bit marks i ≡ choose (is_element i held) 1 0) → take m (drop b marks) ≡ bytes_from held b m
unfolding bytes_from
bytes_are held marks zero b h small e = refl
bytes_are held marks (suc m) b h small e =
    ap (take (suc m)) (drop-cons marks b 0 (omega arith))
    ∙ ap₂ (λ (x : ℕ) (l : List ℕ). x ∷ l)
    (bits_are held 8 (8 * b) (get_or marks b 0) (small b) (λ k l. sym (place k l) ∙ e (8 * b + k) (omega arith)))
    (bytes_are held marks m (suc b) (omega arith) small (λ i l. e i (omega arith)))
  where
    place : (k : ℕ) → k < 8 → bit marks (8 * b + k) ≡ get_or marks b 0 / 2 ^ k % 2
    place k l =
        let q : (8 * b + k) / 8 ≡ b = omega arith in
        let r : (8 * b + k) % 8 ≡ k = omega arith in
        ap (λ (z : ℕ). get_or marks z 0 / 2 ^ ((8 * b + k) % 8) % 2) q ∙ ap (λ (z : ℕ). get_or marks b 0 / 2 ^ z % 2) r

-- places of a list without doubles
distinct_places : (l : List ℕ) → Distinct l → (k j : ℕ) → k < length l → j < length l → get_or l k 0 ≡ get_or l j 0 → k ≡ j
distinct_places [] d k j hk hj e = absurd (omega arith)
distinct_places (a ∷ l) d zero zero hk hj e = refl
distinct_places (a ∷ l) (fresh n d) zero (suc j) hk hj e = absurd (n (subst (λ (b : ℕ). Mem b l) (sym e) (place_mem l j 0 (omega arith))))
distinct_places (a ∷ l) (fresh n d) (suc k) zero hk hj e = absurd (n (subst (λ (b : ℕ). Mem b l) e (place_mem l k 0 (omega arith))))
distinct_places (a ∷ l) (fresh n d) (suc k) (suc j) hk hj e = ap suc (distinct_places l d k j (omega arith) (omega arith) e)

-- a sum over the first entries of a row, by their places
total-taken : (f : ℕ → ℕ) (row : List ℕ) (n : ℕ) → n ≤ length row → total f (take n row) ≡ sum (λ k. f (get_or row k 0)) n
unfolding total sum
total-taken f row zero h = refl
total-taken f row (suc n) h =
    ap (total f) (take-suc row n 0 (omega arith)) ∙ total_append f (take n row) (get_or row n 0 ∷ []) ∙ omega (arith, total-taken f row n (omega arith))

tail_of : {a b : ℕ} {u v : List ℕ} → ◌≡◌ {A = List ℕ} (a ∷ u) (b ∷ v) → u ≡ v
tail_of e = ap rest_of e
  where
    rest_of : List ℕ → List ℕ
    rest_of [] = []
    rest_of (x ∷ w) = w

module _ (M : Moves) (W : Regular M) (R : Rows) (targets : List ℕ) (t m Q : ℕ) (p : Planned M R targets t m Q)
    (queue places marks : List ℕ) (s : State) (x : Explored R targets t m Q queue places marks s) where
  marked : Marked Q s
  marked = x.going.marked

  count_used : length (used s) ≡ s.count
  count_used = length-take-le s.count s.queue (omega (arith, marked.fits, marked.queue_room))

  -- what stands at a place of the queue in use
  used-at : (k : ℕ) → k < s.count → Mem (get_or s.queue k 0) (used s)
  used-at k h =
      subst (λ (i : ℕ). Mem i (used s)) (get_or-take s.count s.queue k 0 h)
      (place_mem (used s) k 0 (omega (arith, count_used)))

  some : 0 < triple_count M.states
  some = let h = mul-le-mul {n₁ = 4} {m₁ = 4} W.four W.four in omega (arith, h)

  inside : (i j : ℕ) → i < triple_count M.states → Mem j (successors M i) → j < triple_count M.states
  inside = successors-below M W

  -- what follows an index is a successor
  next-listed : (i j : ℕ) → i < triple_count Q → NextOf R targets t m Q i j → Mem j (successors M i)
  next-listed i j h (k, l, e) = subst (λ (j : ℕ). Mem j (successors M i)) e ((p.lists i h).each k l)

  queue_below : (k : ℕ) → k < s.count → get_or s.queue k 0 < triple_count Q
  queue_below k h = marked.below (get_or s.queue k 0) (used-at k h)

  -- by the places: 0 is the first index, each further one follows an earlier one
  found_at : (n k : ℕ) → k < n → k < s.count → Mem (get_or s.queue k 0) (smallest M)
  unfolding smallest
  found_at zero k h l = absurd (let o : ⊥ = omega arith in o)
  found_at (suc n) k h l = go (ℕ_discrete k 0) (found_at n)
    where
      go : Dec (k ≡ 0) → ((k : ℕ) → k < n → k < s.count → Mem (get_or s.queue k 0) (smallest M)) → Mem (get_or s.queue k 0) (smallest M)
      go (yes e) again =
          subst (λ (i : ℕ). Mem i (smallest M)) (sym (ap (λ (k : ℕ). get_or s.queue k 0) e ∙ x.going.first))
          (explore-start (successors M) (triple_count M.states) some inside)
      go (no z) again =
          let f = x.going.found k (positive k z) l in
          explore-closed (successors M) (triple_count M.states) some inside (get_or s.queue f.from 0) (get_or s.queue k 0)
          (again f.from (omega (arith, f.earlier)) (omega (arith, f.earlier)))
          (next-listed (get_or s.queue f.from 0) (get_or s.queue k 0) (queue_below f.from (omega (arith, f.earlier))) f.next)
        where
          positive : (k : ℕ) → (k ≡ 0 → ⊥) → 0 < k
          positive zero z = absurd (z refl)
          positive (suc k) z = omega arith

  -- the queue has 0 and every successor of what it has
  used_least : (i : ℕ) → Mem i (smallest M) → Mem i (used s)
  unfolding smallest
  used_least =
      explore_least (successors M) (triple_count M.states) some inside (λ i. Mem i (used s))
      (subst (λ (i : ℕ). Mem i (used s)) x.going.first (used-at 0 x.going.some)) closed
    where
      closed : (i j : ℕ) → Mem i (used s) → Mem j (successors M i) → Mem j (used s)
      closed i j h n =
          let a = mem_place 0 h in
          let l : a.0 < s.count = omega (arith, a.1, count_used) in
          let e : i ≡ get_or s.queue a.0 0 = sym a.2 ∙ get_or-take s.count s.queue a.0 0 l in
          let b : i < triple_count Q = marked.below i h in
          let c : j < triple_count Q
          = subst (λ (q : ℕ). j < triple_count q) (sym p.size) (inside i j (subst (λ (q : ℕ). i < triple_count q) p.size b) n) in
          let o = (p.lists i b).all j n in
          marked.seen_only j (omega (arith, c, bits_fit (triple_count Q)))
          (x.closed a.0 j l (subst (λ (i : ℕ). NextOf R targets t m Q i j) e o))

  -- the queue has exactly the smallest closed set
  pub found-smallest : (i : ℕ) → Mem i (used s) ↔ Mem i (smallest M)
  found-smallest i = (found, used_least i)
    where
      found : Mem i (used s) → Mem i (smallest M)
      found h =
          let a = mem_place 0 h in
          let l : a.0 < s.count = omega (arith, a.1, count_used) in
          subst (λ (i : ℕ). Mem i (smallest M)) (sym (get_or-take s.count s.queue a.0 0 l) ∙ a.2) (found_at (suc a.0) a.0 (omega arith) l)

  -- and as many as it has
  pub size-found : s.count ≡ size M
  size-found = sym count_used ∙ size_cardinal M W (used s) marked.distinct found-smallest

  -- a mark below the flags tells whether the smallest closed set has its index
  mark_is : (i : ℕ) → i < flag_base Q → is_set s.marks i ≡ is_element i (smallest M)
  mark_is i h = go (is_set s.marks i) refl
    where
      go : (b : Bool) → is_set s.marks i ≡ b → is_set s.marks i ≡ is_element i (smallest M)
      go true e = e ∙ sym ((is_element_lem i (smallest M)).1 ((found-smallest i).0 (marked.seen_only i h e)))
      go false e =
          e ∙ sym ((not_element i (smallest M)).1 (λ n. no_bool (sym (marked.seen i ((found-smallest i).1 n)) ∙ e)))

  -- (1,1,1) is marked exactly if the verdict is potential
  pub potential_is : is_set s.marks (index Q 1 1 1) ≡ is_potential M
  potential_is =
      let four : 4 ≤ Q = omega (arith, p.size, W.four) in
      let h = index_below Q 1 1 1 (omega arith) (omega arith) (omega arith) in
      mark_is (index Q 1 1 1) (omega (arith, h, bits_fit (triple_count Q)))
      ∙ ap (λ (q : ℕ). is_element (index q 1 1 1) (smallest M)) p.size

  mark-bit : (i : ℕ) → i < flag_base Q → bit s.marks i ≡ choose (is_element i (smallest M)) 1 0
  mark-bit i h = go (is_element i (smallest M)) (mark_is i h)
    where
      go : (b : Bool) → is_set s.marks i ≡ b → bit s.marks i ≡ choose b 1 0
      go true e = set-bit s.marks i e
      go false e = clear_bit s.marks i e

  -- the marks below the flags are the certificate
  pub certificate_is : take (byte_count Q) s.marks ≡ certificate_of Q (smallest M)
  certificate_is =
      bytes_are (smallest M) s.marks (byte_count Q) 0 (omega (arith, marked.marks_room)) marked.small
      (λ i l. mark-bit i (omega arith))

  ahead_accepted : (place n : ℕ) {j : ℕ} {is : List ℕ} → get_or s.queue place 0 ≡ index Q 1 1 1
      → Ahead s.queue s.parents s.count place j is → check_on M (get_or s.queue j 0) n is ≡ done tt
  unfolding check_on
  ahead_accepted place n e here =
      unless_holds witness_wrong n _ (done tt) (eq-eqb (get_or s.queue place 0) (index M.states 1 1 1) (e ∙ ap (λ (q : ℕ). index q 1 1 1) p.size))
  ahead_accepted place n e (back {j} {k} {is} h l q a) =
      let f = x.going.found k h l in
      let i : get_or s.queue f.from 0 ≡ get_or s.queue j 0 = ap (λ (k : ℕ). get_or s.queue k 0) (sym (q ∙ f.link)) in
      let o : Mem (get_or s.queue k 0) (successors M (get_or s.queue j 0))
      = subst (λ (i : ℕ). Mem (get_or s.queue k 0) (successors M i)) i
      (next-listed (get_or s.queue f.from 0) (get_or s.queue k 0) (queue_below f.from (omega (arith, f.earlier))) f.next) in
      unless_holds witness_wrong n _ (check_on M (get_or s.queue k 0) (suc n) is)
      ((is_element_lem (get_or s.queue k 0) (successors M (get_or s.queue j 0))).1 o)
      ∙ ahead_accepted place (suc n) e a

  -- the way to (1,1,1) is a row that the witness check accepts
  pub row_accepted : (place : ℕ) (rest : List ℕ) → Ahead s.queue s.parents s.count place 0 rest
      → get_or s.queue place 0 ≡ index Q 1 1 1 → check_row M (get_or s.queue 0 0 ∷ rest) ≡ done tt
  unfolding check_row
  row_accepted place rest a e =
      unless_holds witness_wrong 0 _ (check_on M (get_or s.queue 0 0) 1 rest)
      (eq-eqb (get_or s.queue 0 0) (index M.states 0 0 0) (x.going.first ∙ sym (index-zero M.states)))
      ∙ ahead_accepted place 1 e a

  -- places of the queue with one index are one
  one_place : (k l : ℕ) → k < s.count → l < s.count → get_or s.queue k 0 ≡ get_or s.queue l 0 → k ≡ l
  one_place k l hk hl e =
      distinct_places (used s) marked.distinct k l (omega (arith, count_used)) (omega (arith, count_used))
      (get_or-take s.count s.queue k 0 hk ∙ e ∙ sym (get_or-take s.count s.queue l 0 hl))

  ahead-inside : {place j : ℕ} {is : List ℕ} → Ahead s.queue s.parents s.count place j is → j < s.count → place < s.count
  ahead-inside here h = h
  ahead-inside (back a b c d) h = ahead-inside d b

  ahead_way : {place j : ℕ} {is : List ℕ} → Ahead s.queue s.parents s.count place j is
      → (u : List ℕ) → Way s.queue s.parents j u → Way s.queue s.parents place (onto is u)
  ahead_way here u w = w
  ahead_way (back {j} {k} {is} a b c d) u w = ahead_way d (get_or s.queue k 0 ∷ u) (more a (subst (λ (i : ℕ). Way s.queue s.parents i u) c w))

  -- the way to (1,1,1) is the shortest witness
  pub row-shortest : (place : ℕ) (rest : List ℕ) → Ahead s.queue s.parents s.count place 0 rest
      → get_or s.queue place 0 ≡ index Q 1 1 1 → shortest M ≡ get_or s.queue 0 0 ∷ rest
  row-shortest place rest a e =
      let z = x.going.first in
      let goal = index M.states 1 1 1 in
      let c = accepted_leads M (get_or s.queue 0 0 ∷ rest) (row_accepted place rest a e) in
      let leads : Leads (successors M) goal 0 rest = subst (Leads (successors M) goal 0) (sym (tail_of c.1)) c.2 in
      let way : Way s.queue s.parents place (onto rest (0 ∷ []))
      = subst (λ (i : ℕ). Way s.queue s.parents place (onto rest (i ∷ []))) z (ahead_way a (get_or s.queue 0 0 ∷ []) start) in
      shortest-only M W rest
      (row-fewest (successors M) goal (triple_count M.states) inside (NextOf R targets t m Q)
      (λ i j h n. (p.lists i (subst (λ (q : ℕ). i < triple_count q) (sym p.size) h)).all j n) s.queue s.parents s.count x.ordered one_place some place
      (ahead-inside a x.going.some) (e ∙ ap (λ (q : ℕ). index q 1 1 1) p.size) rest way leads)
      ∙ ap (λ (i : ℕ). i ∷ rest) (sym z)

  -- a work row that is cleared, if it is as it was past its first 2Q² entries
  row-cleared : (old row : List ℕ) → drop (triple_count Q) row ≡ drop (triple_count Q) old
      → over (replicate (triple_count Q) 0) row ≡ cleared M.states old
  row-cleared old row e = cleared-same (triple_count Q) old row e ∙ ap (λ (q : ℕ). cleared q old) p.size

  -- the successors of the indices in the queue are those of the smallest closed set
  pub looked_is : looked_in R targets t m Q s.queue s.count ≡ looked_at M
  unfolding looked_at
  looked_is =
      let f : ℕ → ℕ = λ i. length (successors M i) in
      sum_same (λ k. (plan R targets t m Q (get_or s.queue k 0)).total) (λ k. f (get_or s.queue k 0)) s.count (λ k l. p.counts (get_or s.queue k 0) (queue_below k l))
      ∙ sym (total-taken f s.queue s.count (omega (arith, marked.fits, marked.queue_room)))
      ∙ total-same f (used s) (smallest M) (triple_count Q) marked.distinct (smallest_distinct M W) marked.below found-smallest

  module _ (parents row : List ℕ) (row-rest : drop (triple_count Q) row ≡ drop (triple_count Q) parents)
      (certificate witness : List ℕ) (looked : ℕ) (count_is : looked ≡ looked_at M) where
    -- what is lent, before and after
    abbrev told_of : SearchVerdict → List ℕ → List ℕ → Bool → Type 0
    told_of r certificate' witness' b =
        Told b M (lent certificate queue parents witness) r
        (lent certificate' (over (replicate (triple_count Q) 0) s.queue) (over (replicate (triple_count Q) 0) row) witness')

    -- the answer by the marks is the verdict's
    pub told : (r : SearchVerdict) (certificate' witness' : List ℕ) → Answered s Q looked certificate witness r certificate' witness'
        → Told (is_potential M) M (lent certificate queue parents witness) r
        (lent certificate' (over (replicate (triple_count Q) 0) s.queue) (over (replicate (triple_count Q) 0) row) witness')
    told (Unambiguous n l) certificate' witness' (e, c, b, w, o) =
        subst (told_of (Unambiguous n l) certificate' witness') (sym e ∙ potential_is) (record {
          verdict = ap₂ Unambiguous (c ∙ size-found) (o ∙ count_is);
          certificate = b ∙ ap (λ (l : List ℕ). over l certificate) (certificate_is ∙ ap (λ (q : ℕ). certificate_of q (smallest M)) p.size);
          queue = row-cleared queue s.queue x.queue_rest;
          parents = row-cleared parents row row-rest;
          witness = w;
        })
    told (Potential n l) certificate' witness' (e, b, w, o) =
        let q = row-shortest w.place w.rest w.ahead w.entry in
        subst (told_of (Potential n l) certificate' witness') (sym e ∙ potential_is) (record {
          verdict = ap₂ Potential ((let k : n ≡ suc (length w.rest) = omega (arith, w.number_is) in k) ∙ sym (ap length q)) (o ∙ count_is);
          certificate = b;
          queue = row-cleared queue s.queue x.queue_rest;
          parents = row-cleared parents row row-rest;
          witness = w.front ∙ ap (λ (l : List ℕ). over l witness) (sym q);
        })
    told (Refused cause at) certificate' witness' e = absurd e
