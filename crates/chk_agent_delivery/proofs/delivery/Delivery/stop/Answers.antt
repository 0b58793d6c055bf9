use Rattle.std.proofs.Common.{◌≡◌, ◌∙◌, false, ap, sym, subst, length, fold, map, not, replicate, if◌then◌else◌, None}
use Rattle.std.specs.List.{list_any}
use Rattle.std.specs.Prelude.{filter, option_map}
use Rattle.std.proofs.lemmas.List.{length-map}
use Rattle.chk_queue.specs.Queues.{marked}
use Rattle.chk_acks.specs.Resets.{without_rows}
use Rattle.chk_agent_delivery.specs.Turns.{without_adaptors}
use Rattle.chk_agent_delivery.specs.Fields.{delivery_view, post_view}
use Rattle.chk_agent_delivery.specs.Sound.{IsSound}
use Rattle.chk_agent_delivery.specs.Marks.{is_left, with_mark}
use Rattle.chk_agent_delivery.proofs.Leaving.{IsLeft, is_left_by, post_left, left_state, sound_without}
use Rattle.chk_agent_delivery.proofs.delivery.Delivery.stop.Goals as goal

-- what goes, by its marks
left : (c : goal.After-deref-2) → IsLeft (delivery_view c.self.inside) c.args.gone.now
    c.in_ok-marks.marks.items
left c =
    is_left_by (delivery_view c.self.inside) c.args.gone.now c.in_ok-marks.marks.items
    c.self.invariant c.free-sound.ensures.sound
    (c.in_ok-marks.ensures ∙ ap (λ n. fold with_mark (replicate n false) c.args.gone.now)
    c.adaptors.ensures)

kept : (c : goal.After-deref-2) → c.deref-2.result.now
    ≡ map (is_left c.in_ok-marks.marks.items) c.self.inside.owners.items
kept c =
    c.deref-2.ensures.value ∙ c.in_ok-kept.ensures
    ∙ ap (λ m. map (is_left m) c.self.inside.owners.items) c.deref.ensures.value

pub keep-requires : goal.keep-requires
keep-requires c =
    ap length (kept c) ∙ length-map c.self.inside.owners.items (is_left c.in_ok-marks.marks.items)
    ∙ c.self.invariant.as_many

pub reset-requires : goal.reset-requires
reset-requires c =
    ap length c.deref-4.ensures.value
    ∙ (is_left_by (delivery_view c.self.inside) c.args.gone.now c.in_ok-marks.marks.items
    c.self.invariant c.free-sound.ensures.sound
    (c.in_ok-marks.ensures ∙ ap (λ n. fold with_mark (replicate n false) c.args.gone.now)
    c.adaptors.ensures)).size

-- the state that is left
whole : (c : goal.After-drop-marks-2)
    → delivery_view (record c.self.inside {
      queue = c.keep.new.self;
      owners = c.keep_others.new.owners;
      acks = c.reset.new.self;
      post = c.still_out-self-inside.result;
    })
    ≡ without_adaptors c.args.gone.now (delivery_view c.self.inside)
whole c =
    let s = delivery_view c.self.inside in
    let marks = c.in_ok-marks.marks.items in
    left_state s c.args.gone.now marks c.in_ok-kept.kept.items c.keep.new.self
    c.keep_others.new.owners.items c.reset.new.self
    (option_map post_view c.still_out-self-inside.result)
    (is_left_by s c.args.gone.now marks c.self.invariant c.free-sound.ensures.sound
    (c.in_ok-marks.ensures ∙ ap (λ n. fold with_mark (replicate n false) c.args.gone.now)
    c.adaptors.ensures))
    (c.in_ok-kept.ensures ∙ ap (λ m. map (is_left m) c.self.inside.owners.items)
    c.deref.ensures.value)
    (c.keep.ensures ∙ ap (λ k. record s.queue { chunks = marked k s.queue.chunks })
    c.deref-2.ensures.value)
    (c.keep_others.ensures ∙ ap (λ m. filter (is_left m) c.self.inside.owners.items)
    c.deref-3.ensures.value)
    (c.reset.ensures ∙ ap (λ m. without_rows m s.table) c.deref-4.ensures.value)
    (ap (option_map post_view) c.still_out-self-inside.ensures
    ∙ post_left (list_any not c.deref-5.result.now) c.self.inside.post
    ∙ ap (λ k. if list_any not k then None else s.post) c.deref-5.ensures.value)

pub invariant_of-self : goal.invariant_of-self
invariant_of-self c =
    subst IsSound (sym (whole c)) (sound_without c.args.gone.now (delivery_view c.self.inside)
    c.self.invariant)

pub returns-clause-ok : goal.returns-clause-ok
returns-clause-ok c = whole c ∙ ap (without_adaptors c.args.gone.now) c.self.view_is
