-- add_levels meets its contract: a turn adds one level, which stands as the one below did.
use native.Mathlib.Omega.{arith}
use mathlib.Core.Path.{◌≡◌, ◌∙◌}
use Rattle.moves.proofs.Built.{columns_of}
use Rattle.caller_rows.proofs.AddLaws.{record_of_lem, level_zero}
use Rattle.caller_rows.proofs.BuiltLaws.{too_many, next-at, next-stands}
use Rattle.caller_rows.proofs.add_levels.Goals as goal

pub loop-init : goal.loop-init
loop-init c = (
  λ G S. level_zero G _ _ _ _ S (columns_of _ (record_of_lem G 0 _ _ _ _ S)).few,
  λ G S k e. absurd (omega (arith, e)),
)

pub returns-then-q-gt-MAX_STATES : goal.returns-then-q-gt-MAX_STATES
returns-then-q-gt-MAX_STATES c G S = let l = c.loop in
    let A = c.add_level-q.ensures G l.counter (l.invariant.0 G S) in
    record {
      fits = λ h. absurd (omega (arith, h, c.if-q-gt-MAX_STATES.true));
      many = λ h. too_many G S.well_formed l.counter _ _ A.count (omega arith) h;
    }

pub loop-preserved : goal.loop-preserved
loop-preserved c = let l = c.loop in (
  λ G S. next-at G l.counter _ _ _ _ _ _ _ _ _ _ (c.add_level-q.ensures G l.counter (l.invariant.0 G S)) c.if-q-gt-MAX_STATES.false,
  λ G S. next-stands G l.counter _ _ _ _ _ _ _ _ _ _ _ _ _ _ (l.invariant.0 G S) (c.add_level-q.ensures G l.counter (l.invariant.0 G S)) c.if-q-gt-MAX_STATES.false,
)

pub returns : goal.returns
returns c G S = let l = c.loop in
    let z : l.counter ≡ c.args.m = omega arith in
    record {
      fits = λ h k e. l.invariant.1 G S k (z ∙ e);
      many = λ h. absurd (omega (arith, h, (l.invariant.0 G S).sizable.few));
    }
