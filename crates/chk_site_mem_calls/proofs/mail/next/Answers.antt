use Rattle.std.proofs.Common.{List, ℕ, sym, ◌∙◌, ap}
use Rattle.std.specs.List.{slice_get}
use Rattle.chk_site_mem_store.specs.Reads.{text_at}
use Rattle.chk_site_mem_store.specs.Told.{told_of}
use Rattle.chk_site_mem_calls.proofs.TakeLemmas.{first_sent}
use Rattle.chk_site_mem_calls.proofs.mail.next.Goals as goal

pub unreachable-requires : goal.unreachable-requires
unreachable-requires c =
    first_sent c.args.mailbox (told_of c.args.keeper.now.kept) c.in_ok-waiting.waiting.items c.in-Some.number c.in_ok-waiting.ensures
    (ap (λ (ws : List ℕ). slice_get ws 0) (sym c.deref.ensures.value) ∙ sym c.first.ensures.value ∙ sym c.copied.ensures ∙ c.in-Some.is)
    (sym c.message.ensures ∙ ap text_at c.in-None.is)
