use Rattle.std.proofs.Common.{map, true, refl, sym, ◌∙◌, ◌-◌, ◌∷◌, [], ◌++◌, ◌≡◌, ap, ℕ}
use Rattle.std.proofs.lemmas.Bool.{lt-ltb, le-ltb}
use Rattle.std.proofs.lemmas.List.{length-map}
use Rattle.chk_chunk.specs.Lent.{lent_key}
use Rattle.chk_record_index.specs.Heads.{Head, head_with}
use Rattle.chk_record_index.specs.Order.{lent_head}
use Rattle.chk_book.specs.Views.{end_view}
use Rattle.chk_demux_scan.proofs.HeadLooks.{on_ok, looks_broken, looks_break, looks_past, looks_held}
use Rattle.chk_demux_scan.proofs.looking.look_at.Goals as goal

pub returns-then-look-clause-ok : goal.returns-then-look-clause-ok
returns-then-look-clause-ok c =
    looks_broken (map end_view c.args.ends.now) c.args.places.now (lent_head c.args.head.now)
    c.args.heads.now c.args.look.now c.if-look.true

pub returns-in_default-clause-ok : goal.returns-in_default-clause-ok
returns-in_default-clause-ok c =
    looks_break (map end_view c.args.ends.now) c.args.places.now (lent_head c.args.head.now)
    c.args.heads.now c.args.look.now c.if-look.false
    (record { spans = c.take_next_head.new.spans; broken = true }) refl c.in_default.ensures.none

pub returns-then-head-places-clause-ok : goal.returns-then-head-places-clause-ok
returns-then-head-places-clause-ok c =
    let es = map end_view c.args.ends.now in
    let size = length-map c.args.ends.now end_view in
    looks_past es c.args.places.now (lent_head c.args.head.now) c.args.heads.now c.args.look.now
    c.if-look.false c.in-Some.place (c.requires.places ∙ sym size)
    (rw size c.in-Some.ensures.within) c.in-Some.ensures.found
    (record { spans = c.take_next_head.new.spans; broken = c.args.look.now.broken }) c.if-look.false
    c.in-Some.ensures.took (le-ltb _ _ c.if-head-places.true)

pub returns-clause-ok : goal.returns-clause-ok
returns-clause-ok c =
    let es = map end_view c.args.ends.now in
    let size = length-map c.args.ends.now end_view in
    let at : ℕ → Head = λ n. head_with (lent_key c.args.head.now.key) n c.args.head.now.file
    c.args.head.now.at in
    on_ok c.push.result
    (λ (pushed : c.push.new.self
    ≡ c.args.heads.now ++ at (c.args.head.now.key.seq - c.args.size) ∷ []).
    looks_held es c.args.places.now (lent_head c.args.head.now) c.args.heads.now c.args.look.now
    c.if-look.false c.in-Some.place (c.requires.places ∙ sym size)
    (rw size c.in-Some.ensures.within) c.in-Some.ensures.found
    (record { spans = c.take_next_head.new.spans; broken = c.args.look.now.broken }) c.if-look.false
    c.in-Some.ensures.took (lt-ltb _ _ c.if-head-places.false) c.push.new.self
    (pushed ∙ ap (λ n. c.args.heads.now ++ at n ∷ []) (sym c.requires.begin)))
    c.push.ensures.ok
