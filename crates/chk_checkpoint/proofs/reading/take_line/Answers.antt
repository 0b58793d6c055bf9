use Rattle.std.proofs.Common.{◌≡◌, ◌<◌, Bool, true, false, ◌&&◌, not, ap, sym, subst, ◌∙◌, length, map, arith, refl, ◌++◌, ◌∷◌, []}
use Rattle.std.specs.Prelude.{nat_lt}
use Rattle.std.specs.List.{list_any}
use Rattle.std.proofs.lemmas.Bool.{lt-ltb, and_from}
use Rattle.std.proofs.lemmas.List.{length-map}
use Rattle.chk_world.specs.Checkpoints.{clash}
use Rattle.chk_checkpoint.specs.Lines.{shown}
use Rattle.chk_checkpoint.specs.Fields.{lent}
use Rattle.chk_checkpoint.specs.Seen.{HasSeen}
use Rattle.chk_checkpoint.proofs.ListLemmas.{map_on}
use Rattle.chk_checkpoint.proofs.SeenLemmas.{follows_seen, seen_more}
use Rattle.chk_checkpoint.proofs.reading.take_line.Goals as goal

and_false : (b c : Bool) → c ≡ false → (b && c) ≡ false
and_false true c e = e
and_false false c e = refl

pub returns-then-len-eq-MOST_LINES-clause-taken : goal.returns-then-len-eq-MOST_LINES-clause-taken
returns-then-len-eq-MOST_LINES-clause-taken c =
    let same = length-map c.args.lines.now.items shown in
    let here = c.len.ensures in
    let most = c.if-len-eq-MOST_LINES.true in
    let held = c.args.lines.now.ok.0 in
    let all : length (map shown c.args.lines.now.items) ≡ 10000 = omega (arith, same, here, most, held) in
    sym (ap (λ n. nat_lt n 10000 && not (list_any (λ m. clash m (lent c.args.line.now)) (map shown c.args.lines.now.items))) all)

pub returns-then-not-branch-clause-taken : goal.returns-then-not-branch-clause-taken
returns-then-not-branch-clause-taken c =
    let lines = map shown c.args.lines.now.items in
    sym (and_false (nat_lt (length lines) 10000) (not (list_any (λ m. clash m (lent c.args.line.now)) lines))
    (sym (follows_seen c.args.seen.now lines (lent c.args.line.now) c.requires.seen) ∙ (sym c.in_ok-add.ensures.new ∙ c.if-not-branch.true)))

pub returns-clause-taken : goal.returns-clause-taken
returns-clause-taken c =
    let lines = map shown c.args.lines.now.items in
    let same = length-map c.args.lines.now.items shown in
    let here = c.len.ensures in
    let held = c.args.lines.now.ok.0 in
    let other = c.if-len-eq-MOST_LINES.false in
    let few = c.requires.few in
    let room : length lines < 10000 = omega (arith, same, here, held, other, few) in
    sym (and_from (nat_lt (length lines) 10000) (not (list_any (λ m. clash m (lent c.args.line.now)) lines)) (lt-ltb (length lines) 10000 room)
    (sym (follows_seen c.args.seen.now lines (lent c.args.line.now) c.requires.seen) ∙ (sym c.in_ok-add.ensures.new ∙ c.if-not-branch.false)))

pub returns-clause-seen : goal.returns-clause-seen
returns-clause-seen c =
    let lines = c.args.lines.now.items in
    subst (HasSeen c.add.new.self)
    (ap (λ l. map shown lines ++ l ∷ []) (sym c.in_ok-own_line.ensures)
    ∙ (sym (map_on shown lines (c.in_ok-own_line.field-0 ∷ [])) ∙ ap (map shown) (sym c.in_ok-push.ensures.items)))
    (seen_more c.args.seen.now c.add.new.self (map shown lines) (lent c.args.line.now) c.requires.seen
    (rw c.if-not-branch.false at c.in_ok-add.ensures.names) (rw c.if-not-branch.false at c.in_ok-add.ensures.logs))
