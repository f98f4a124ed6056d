-- `joining::gathering::put_fresh` meets its contract: up to the index the fresh names are put. Assumes nothing.
use Rattle.std.proofs.Common.{ℕ, List, [], ◌∷◌, ap, sym, subst, ◌∙◌, length, take, get_or, length-append, arith}
use Rattle.text.specs.Spelled.{spelled}
use Rattle.joining.specs.Gathering.{fresh, Puts}
use Rattle.joining.proofs.GatherLaws.{room-kept, puts_none, puts_more, listed_count, fresh-none, fresh-next, fresh-room, fresh-all}
use Rattle.joining.proofs.gathering.put_fresh.Goals as goal

pub loop-i-init : goal.loop-i-init
loop-i-init c = let a = c.args in
    let n = listed_count a.text.now a.starts.now a.lengths.now c.requires.listed in
    let z = fresh-none a.least a.numbers.now (spelled a.text.now a.starts.now a.lengths.now) (n ∙ c.requires.numbered) in
    (omega (arith, ap length z), puts_none _ _ _ _ _ z)

pub put_if_fresh-to-requires : goal.put_if_fresh-to-requires
put_if_fresh-to-requires c = let l = c.loop-i in
    let a = c.args in
    let names = spelled a.text.now a.starts.now a.lengths.now in
    let n = listed_count a.text.now a.starts.now a.lengths.now c.requires.listed in
    record {
      listed = c.requires.listed;
      inside = omega (arith, c.requires.numbered, c.loop-i-test.true);
      room = room-kept c.loop-i.auto.bytes c.loop-i.auto.places c.loop-i.auto.spans c.requires.room;
      few = λ h. omega (
        arith,
        c.requires.few,
        l.invariant.0,
        fresh-room a.least a.numbers.now names (n ∙ c.requires.numbered) l.i (omega (arith, n, c.requires.numbered, c.loop-i-test.true)) h,
      );
    }

pub loop-i-preserved : goal.loop-i-preserved
loop-i-preserved c = let l = c.loop-i in
    let a = c.args in
    let names = spelled a.text.now a.starts.now a.lengths.now in
    let n = listed_count a.text.now a.starts.now a.lengths.now c.requires.listed in
    let done = fresh a.least (take l.i a.numbers.now) (take l.i names) in
    let one = fresh a.least (get_or a.numbers.now l.i 0 ∷ []) (get_or names l.i [] ∷ []) in
    let z = fresh-next a.least a.numbers.now names (n ∙ c.requires.numbered) l.i (omega (arith, n, c.requires.numbered, c.loop-i-test.true)) in (
      omega (arith, c.put_if_fresh-to.ensures.count, l.invariant.0, ap length z, length-append done one),
      subst (λ (more : List (List ℕ)). Puts more a.k a.bytes.now a.places.now a.spans.now c.put_if_fresh-to.new.bytes c.put_if_fresh-to.new.places
          c.put_if_fresh-to.new.spans) (sym z) (puts_more done one l.to l.invariant.0 l.invariant.1 c.put_if_fresh-to.ensures.rows),
    )

pub returns : goal.returns
returns c = let l = c.loop-i in
    let a = c.args in
    let n = listed_count a.text.now a.starts.now a.lengths.now c.requires.listed in
    subst (λ (more : List (List ℕ)). Puts more a.k a.bytes.now a.places.now a.spans.now l.bytes l.places l.spans)
    (fresh-all a.least a.numbers.now (spelled a.text.now a.starts.now a.lengths.now) (n ∙ c.requires.numbered) l.i
    (omega (arith, n, c.requires.numbered, c.loop-i-test.false))) l.invariant.1
