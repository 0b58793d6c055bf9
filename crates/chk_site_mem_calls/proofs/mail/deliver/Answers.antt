use Rattle.std.proofs.Common.{ℕ, ◌∙◌, sym, ap, rules}
use Rattle.std.specs.Prelude.{◌==◌, not}
use Rattle.std.proofs.lemmas.Fn.{filter_same}
use Rattle.chk_site_mem_calls.specs.declared.mail.Mail.{Mail}
use Rattle.chk_site_mem_calls.specs.Mail.{with_mail}
use Rattle.chk_site_mem_calls.proofs.mail.deliver.Goals as goal

pub returns-in-Went : goal.returns-in-Went
returns-in-Went c =
    filter_same _ (λ (n : ℕ). not (n == c.in-Went.number)) _ (λ x b f' k. search rules) _ _ c.retain.ensures.filtered
    ∙ sym (ap (λ (mail : Mail). with_mail mail c.args.waiting.now.items) c.in-Went.is)
