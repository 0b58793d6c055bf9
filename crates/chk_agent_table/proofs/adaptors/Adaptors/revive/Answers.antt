use Rattle.std.proofs.Common.{◌≡◌, ap, sym, ◌∙◌, arith}
use Rattle.std.specs.Prelude.{position, slice_set}
use Rattle.std.specs.HashMap.{get_by_text}
use Rattle.std.specs.String.{string_bytes}
use Rattle.std.proofs.lemmas.Option.{same_Some}
use Rattle.chk_agent_adaptor.specs.Adaptors.{Adaptor, revived}
use Rattle.chk_agent_table.specs.Adaptors.{Held, is_named}
use Rattle.chk_agent_table.proofs.Finding.{name_room, revives}
use Rattle.chk_agent_table.proofs.Forgetting.{noted_over}
use Rattle.chk_agent_table.proofs.Places.{values_set}
use Rattle.chk_agent_table.proofs.Writes.{below, same_at}
use Rattle.chk_agent_table.proofs.adaptors.Adaptors.revive.Goals as goal

pub index-requires : goal.index-requires
index-requires c = below c.self.inside c.args.number c.args.self.now c.self.view_is c.requires.there

pub index_mut-requires : goal.index_mut-requires
index_mut-requires c = below c.self.inside c.args.number c.args.self.now c.self.view_is
    c.requires.there

pub note-requires : goal.note-requires
note-requires c =
    let room = name_room c.self.inside c.args.self.now c.self.view_is c.requires.room in
    omega (arith, room, c.forget.ensures.spare)

pub returns-clause-items : goal.returns-clause-items
returns-clause-items c a at =
    let i = c.self.inside in
    let n = c.args.number in
    let x = c.index_mut.result.now in
    let is : c.revive.new.self ≡ revived c.args.name a =
    c.revive.ensures
    ∙ ap (revived c.args.name) (same_at i n c.args.self.now c.self.view_is x a
    c.index_mut.ensures.value at) in
    values_set i.streams.entries n c.revive.new.self
    ∙ ap (λ (h : Held). slice_set h.items n c.revive.new.self) c.self.view_is
    ∙ ap (slice_set c.args.self.now.items n) is

pub returns-clause-spare : goal.returns-clause-spare
returns-clause-spare c =
    let same = ap (λ (h : Held). h.spare) c.self.view_is in
    omega (arith, same, c.forget.ensures.spare, c.note.ensures.spare)

pub invariant_of-self : goal.invariant_of-self
invariant_of-self c =
    let i = c.self.inside in
    let n = c.args.number in
    let x = c.index_mut.result.now in
    revives string_bytes i.streams.entries (get_by_text i.names) (get_by_text c.note.new.names) n
    c.args.name x
    c.revive.new.self c.self.invariant c.index_mut.ensures.value c.revive.ensures
    (ap (λ (h : Held). position (is_named c.args.name) h.items) c.self.view_is ∙ c.requires.free)
    (noted_over (get_by_text i.names) (get_by_text c.forget.new.names)
    (get_by_text c.note.new.names)
    (string_bytes c.args.key) c.args.name c.as_str.result.now x.name n c.requires.key
    (c.as_str.ensures.text ∙ c.name.ensures
    ∙ ap (λ (r : Adaptor). r.name) (same_Some c.index.result.now x
    (sym c.index.ensures ∙ c.index_mut.ensures.value)))
    c.forget.ensures.found c.note.ensures.found)
