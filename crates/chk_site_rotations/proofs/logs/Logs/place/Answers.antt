use Rattle.std.proofs.Common.{◌∙◌, ap, sym, subst, length, refl, true≢false}
use Rattle.std.specs.Prelude.{◌≤◌, string_bytes}
use Rattle.chk_site_rotations.specs.Logs.{AreRising, IsAt, IsPathEnd}
use Rattle.chk_site_rotations.proofs.Paths.{known_there, rising_more, same_place}
use Rattle.chk_site_rotations.proofs.Placing.{placed_there, placed_new}
use Rattle.chk_site_rotations.proofs.logs.Logs.place.Goals as goal

pub returns-then-has_path-clause-placed : goal.returns-then-has_path-clause-placed
returns-then-has_path-clause-placed c =
    placed_there c.args.self.now.seen.items c.args.path.now c.count_below-place.result
    (subst (λ l. IsAt l c.count_below-place.result c.args.path.now) c.deref-2.ensures.value
    (c.has_path.ensures.0 c.if-has_path.true))

pub returns-then-has_path-clause-once : goal.returns-then-has_path-clause-once
returns-then-has_path-clause-once c = λ rising i at. (
  refl,
  same_place c.args.self.now.seen.items c.deref.result.now c.args.path.now c.count_below-place.result i
      c.deref.ensures.value c.count_below-place.ensures.place rising at,
)

pub returns-then-len-ge-MOST_LOGS-clause-once : goal.returns-then-len-ge-MOST_LOGS-clause-once
returns-then-len-ge-MOST_LOGS-clause-once c = λ rising i at. absurd (true≢false (sym (c.has_path.ensures.1
    (known_there c.args.self.now.seen.items c.deref.result.now c.deref-2.result.now c.args.path.now c.count_below-place.result i
    c.deref.ensures.value c.deref-2.ensures.value c.count_below-place.ensures.place rising at))
    ∙ c.if-has_path.false))

pub returns-clause-placed : goal.returns-clause-placed
returns-clause-placed c =
    placed_new c.args.self.now.seen.items c.insert.new.self.items c.args.path.now
    c.count_below-place.result c.new-log.result
    (subst (λ l. c.count_below-place.result ≤ length l) c.deref.ensures.value c.count_below-place.ensures.within)
    c.in_ok-insert.ensures.items
    (ap string_bytes c.new-log.ensures.path ∙ c.in_ok-from_str.ensures.ok, c.new-log.ensures.base, c.new-log.ensures.held, c.new-log.ensures.passed)

pub returns-clause-rising : goal.returns-clause-rising
returns-clause-rising c = λ rising.
    rising_more c.args.self.now.seen.items c.insert.new.self.items c.args.path.now c.count_below-place.result c.new-log.result rising
    (subst (λ l. AreRising l → IsPathEnd l c.args.path.now c.count_below-place.result) c.deref.ensures.value c.count_below-place.ensures.place rising)
    (λ at. true≢false (sym (c.has_path.ensures.1 (subst (λ l. IsAt l c.count_below-place.result c.args.path.now) (sym c.deref-2.ensures.value) at)) ∙ c.if-has_path.false))
    (subst (λ l. c.count_below-place.result ≤ length l) c.deref.ensures.value c.count_below-place.ensures.within)
    c.in_ok-insert.ensures.items
    (ap string_bytes c.new-log.ensures.path ∙ c.in_ok-from_str.ensures.ok)

pub returns-clause-once : goal.returns-clause-once
returns-clause-once c = λ rising i at. absurd (true≢false (sym (c.has_path.ensures.1
    (known_there c.args.self.now.seen.items c.deref.result.now c.deref-2.result.now c.args.path.now c.count_below-place.result i
    c.deref.ensures.value c.deref-2.ensures.value c.count_below-place.ensures.place rising at))
    ∙ c.if-has_path.false))
