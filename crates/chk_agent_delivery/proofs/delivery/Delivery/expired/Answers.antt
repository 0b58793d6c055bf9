use Rattle.std.proofs.Common.{◌≡◌, ◌∙◌, false, ap, length, fold, replicate}
use Rattle.std.proofs.lemmas.List.{with_items_is}
use Rattle.chk_acks.specs.Resets.{expired_marked}
use Rattle.chk_agent_delivery.specs.Turns.{expired_in}
use Rattle.chk_agent_delivery.proofs.Marked.{expired_numbers}
use Rattle.chk_agent_delivery.proofs.delivery.Delivery.expired.Goals as goal

pub returns : goal.returns
returns c =
    let rows = c.self.inside.acks.rows in
    let age = c.self.inside.rules.expire in
    let count = length c.self.inside.acks.committed in
    let none : c.deref_mut.result.now ≡ replicate count false =
    c.deref_mut.ensures.value ∙ c.in_ok-marks.ensures
    ∙ ap (λ n. replicate n false) c.adaptors.ensures in
    let marks : c.deref.result.now ≡ fold (expired_marked c.args.now age) (replicate count false)
    rows =
    c.deref.ensures.value
    ∙ with_items_is c.in_ok-marks.marks c.expired_all.new.gone
    (c.expired_all.auto.gone ∙ c.deref_mut.ensures.len)
    ∙ c.expired_all.ensures
    ∙ ap (λ m. fold (expired_marked c.args.now age) m rows) none in
    c.in_ok-gone.ensures
    ∙ expired_numbers c.args.now age count rows c.deref.result.now marks
    ∙ ap (expired_in c.args.now) c.self.view_is
