use Rattle.std.proofs.Common.{◌++◌, ◌∷◌, [], length, not, ap, sym, ◌∙◌, arith}
use Rattle.std.specs.Prelude.{position}
use Rattle.std.specs.HashMap.{get_by_text}
use Rattle.std.specs.Map.{values_of}
use Rattle.std.specs.String.{string_bytes}
use Rattle.std.proofs.lemmas.List.{map-append, length-map}
use Rattle.indexmap.specs.IndexMap.{spare}
use Rattle.chk_agent_adaptor.specs.Adaptors.{is_past}
use Rattle.chk_agent_table.specs.Adaptors.{Held, is_named}
use Rattle.chk_agent_table.proofs.Finding.{adds, less_by_one, name_room, not_there, stream_room}
use Rattle.chk_agent_table.proofs.adaptors.Adaptors.add.Goals as goal

pub put-requires-clause-room : goal.put-requires-clause-room
put-requires-clause-room c = stream_room c.self.inside c.args.self.now c.self.view_is
    c.requires.room

pub put-requires-clause-new : goal.put-requires-clause-new
put-requires-clause-new c =
    let a = c.args.adaptor in
    not_there c.self.inside c.args.self.now c.self.view_is c.self.invariant a.kind a.path
    (string_bytes c.args.keys.stream)
    c.requires.keys.word c.requires.keys.stream c.requires.stream

pub note-requires : goal.note-requires
note-requires c = name_room c.self.inside c.args.self.now c.self.view_is c.requires.room

pub returns-clause-items : goal.returns-clause-items
returns-clause-items c =
    let es = c.self.inside.streams.entries in
    ap values_of c.put.ensures.entries
    ∙ map-append (λ e. e.1) es ((c.args.keys.stream, c.args.adaptor) ∷ [])
    ∙ ap (λ (h : Held). h.items ++ c.args.adaptor ∷ []) c.self.view_is

pub returns-clause-spare : goal.returns-clause-spare
returns-clause-spare c =
    less_by_one (spare c.self.inside.streams) (spare c.self.inside.names) (spare c.put.new.streams)
    (spare c.note.new.names)
    c.args.self.now.spare (ap (λ (h : Held). h.spare) c.self.view_is) c.put.ensures.spare
    c.note.ensures.spare

pub invariant_of-self : goal.invariant_of-self
invariant_of-self c =
    let i = c.self.inside in
    let es = i.streams.entries in
    let a = c.args.adaptor in
    let size = length-map es (λ e. e.1) in
    let same = ap (λ (h : Held). length h.items) c.self.view_is in
    adds string_bytes es c.put.new.streams.entries (get_by_text i.names)
    (get_by_text c.note.new.names) c.args.keys.stream
    (string_bytes c.args.keys.name) a c.len-number.result (not c.is_past-live.result)
    c.self.invariant c.put.ensures.entries
    c.requires.keys.stream c.requires.keys.name (c.len-number.ensures.len ∙ sym size)
    (ap not (c.is_past-live.ensures ∙ ap is_past c.phase.ensures.phase))
    (omega (arith, same, c.requires.few))
    c.requires.keys.word
    (λ live. ap (λ (h : Held). position (is_named a.name) h.items) c.self.view_is ∙ c.requires.name
    live)
    c.note.ensures.found
