use Rattle.std.proofs.Common.{◌≡◌, drop, arith, subst, ap, ◌∙◌}
use Rattle.std.proofs.lemmas.List.{length-drop, take_rest}
use Rattle.chk_seqfile.specs.Entries.{entry_at}
use Rattle.chk_salvage.specs.Views.{entry_of, IsWithin}
use Rattle.chk_salvage.proofs.EntryFits.{seen_within, bytes_behind}
use Rattle.chk_salvage.proofs.FrontLemmas.{seen_stands}
use Rattle.chk_salvage.proofs.entry.entry_from.Goals as goal

pub returns-clause-within : goal.returns-clause-within
returns-clause-within c =
    let marker = c.args.marker.now in
    let at = c.args.at in
    let bytes = c.args.bytes.now in
    let here : entry_of c.entry_at.result ≡ entry_at marker (drop at bytes) =
    c.entry_at.ensures ∙ ap (entry_at marker) (take_rest bytes at) in
    subst (IsWithin c.entry_at.result) (length-drop at bytes)
    (seen_within marker (drop at bytes) c.entry_at.result c.told-marker (bytes_behind at bytes (λ i. omega (arith, c.type_inv.bytes i))) here)

pub returns-clause-stands : goal.returns-clause-stands
returns-clause-stands c =
    let marker = c.args.marker.now in
    let at = c.args.at in
    let bytes = c.args.bytes.now in
    seen_stands marker bytes at c.entry_at.result (bytes_behind at bytes (λ i. omega (arith, c.type_inv.bytes i)))
    (c.entry_at.ensures ∙ ap (entry_at marker) (take_rest bytes at))
