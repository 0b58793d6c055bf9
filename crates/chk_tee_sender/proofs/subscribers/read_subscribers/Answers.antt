use Rattle.std.proofs.Common.{◌≡◌, ◌+◌, ◌-◌, ◌<◌, List, [], ◌∷◌, ◌++◌, length, take, drop, Some, ap, sym, ◌∙◌, arith, length-append}
use Rattle.std.proofs.lemmas.Bool.{cond-true}
use Rattle.std.proofs.lemmas.List.{length-drop}
use Rattle.chk_tee.proofs.FilterLemmas.{rest_sliced}
use Rattle.chk_bytes.specs.Words.{parts_at}
use Rattle.chk_tee_sender.specs.Subscribers.{lines_from, most_subscribers, subscriber_in}
use Rattle.chk_tee_sender.specs.declared.Subscriber.{Subscriber}
use Rattle.chk_tee_sender.proofs.SubscriberLemmas.{ok_from, whole_text, next_line, bad_line, line_too_many, line_unended}
use Rattle.chk_tee_sender.proofs.subscribers.read_subscribers.Goals as goal

pub loop-at-init : goal.loop-at-init
loop-at-init c = record {
  same = ap (λ (l : List Subscriber). lines_from 0 l (parts_at 10 c.args.text.now)) c.new-subscribers.ensures.items ∙ whole_text c.args.text.now;
  within = omega arith;
  few = omega (arith, ap length c.new-subscribers.ensures.items);
}

pub returns-in_default-clause-fault : goal.returns-in_default-clause-fault
returns-in_default-clause-fault c =
    let l = c.loop-at in
    sym l.invariant.same ∙ line_unended l.at l.subscribers.items c.args.text.now c.in_default.ensures.place c.loop-at-test.true

pub returns-then-len-ge-MOST_SUBSCRIBERS-clause-fault :
    goal.returns-then-len-ge-MOST_SUBSCRIBERS-clause-fault
returns-then-len-ge-MOST_SUBSCRIBERS-clause-fault c =
    let l = c.loop-at in
    sym l.invariant.same
    ∙ line_too_many l.at c.in-Some.size l.subscribers.items c.args.text.now c.in-Some.ensures.place (omega (arith, c.if-len-ge-MOST_SUBSCRIBERS.true))

pub loop-at-preserved : goal.loop-at-preserved
loop-at-preserved c =
    let l = c.loop-at in
    let text = c.args.text.now in
    let size = c.in-Some.size in
    let s : Subscriber = c.in-Ok-Some.subscriber in
    let before : List Subscriber = l.subscribers.items in
    let few : length before < most_subscribers = omega (arith, c.if-len-ge-MOST_SUBSCRIBERS.false) in
    let is : c.push.new.self.items ≡ before ++ s ∷ [] =
    c.push.ensures.items ∙ cond-true _ _ _ (ok_from c.push.result (sym c.is_err.ensures.value ∙ c.if-is_err.false)) in
    let within : size < length (take (length text - l.at) (drop l.at text)) = c.in-Some.ensures.within in
    let line : subscriber_in (take (l.at + size - l.at) (drop l.at text)) ≡ Some s =
    rw c.in-Ok-Some.field-0-is at c.in-Ok-Some.ensures.some in
    record {
      same = ap (λ (xs : List Subscriber). lines_from (l.at + (size + 1)) xs (parts_at 10 (drop (l.at + (size + 1)) text))) is
          ∙ (next_line l.at size before s text c.in-Some.ensures.place few line ∙ l.invariant.same);
      within = omega (arith, within, ap length (rest_sliced l.at text), length-drop l.at text);
      few = omega (arith, few, ap length is, length-append before (s ∷ []));
    }

pub returns-in-Ok-None-clause-fault : goal.returns-in-Ok-None-clause-fault
returns-in-Ok-None-clause-fault c =
    let l = c.loop-at in
    sym l.invariant.same
    ∙ bad_line l.at c.in-Some.size l.subscribers.items c.args.text.now c.in-Some.ensures.place (omega (arith, c.if-len-ge-MOST_SUBSCRIBERS.false))
    (rw c.in-Ok-None.field-0-is at c.in-Ok-None.ensures.none)
