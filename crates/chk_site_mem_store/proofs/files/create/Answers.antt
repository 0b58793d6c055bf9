use Rattle.std.proofs.Common.{refl}
use Rattle.chk_site_mem_store.specs.Stored.{file_of}
use Rattle.chk_site_mem_store.proofs.NamedLemmas.{none_named, none_place, asked_of}
use Rattle.chk_site_mem_store.proofs.FileLemmas.{remade, created}
use Rattle.chk_site_mem_store.proofs.files.create.Goals as goal

pub returns-in_ok-push-clause-ok : goal.returns-in_ok-push-clause-ok
returns-in_ok-push-clause-ok c =
    let name = c.args.name.now in
    let files = c.args.files.now.items in
    let none = none_named file_of name files (asked_of name files c.place.ensures c.deref.ensures.value (none_place c.place.result c.if-is_none.ensures)) in
    rw c.in_ok-push.ensures.items (created name files _ c.in_ok-from_slice.ensures c.new.ensures none)

pub returns-else-is_none-clause-ok : goal.returns-else-is_none-clause-ok
returns-else-is_none-clause-ok c =
    let name = c.args.name.now in
    let files = c.args.files.now.items in
    remade name files c.place.result c.if-is_none.ensures (asked_of name files c.place.ensures c.deref.ensures.value refl)
