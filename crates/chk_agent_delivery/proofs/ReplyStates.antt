-- The script of the reply to a post, exit by exit.
use Rattle.std.proofs.Common.{◌≡◌, ℕ, List, [], Option, Some, Ok, ap, sym, subst, ◌∙◌}
use Rattle.std.specs.Prelude.{option_map}
use Rattle.chk_site.specs.declared.acts.Who.{Who}
use Rattle.chk_site.specs.declared.acts.Call.TheVariants.{Got}
use Rattle.chk_site.specs.History.{History}
use Rattle.chk_site.specs.Site.{Adds, asked, answered, Calls, bytes_given}
use Rattle.chk_agent_delivery.specs.declared.answers.Answered.{Answered}
use Rattle.chk_agent_delivery.specs.declared.delivery.OutPost.{OutPost}
use Rattle.chk_agent_delivery.specs.States.{State}
use Rattle.chk_agent_delivery.specs.Fields.{post_view}
use Rattle.chk_agent_delivery.specs.Scripts.{TakesPostReply, IsPostReplied, got}

-- what was taken of the bytes that were lent
pub got_all : (who : Who) (now : ℕ) (s u t : State) (o : Option OutPost) (p : OutPost) (bytes slice : List ℕ) (answer : Answered)
    {old new : Option History} → s ≡ u → s.post ≡ option_map post_view o → o ≡ Some p → slice ≡ bytes
    → Adds old new (Calls (asked who Got [] p.message 0) (answered bytes_given (Ok bytes)))
    → TakesPostReply now p.count slice u answer t → IsPostReplied who now u (Ok answer) t old new
got_all who now s u t o p bytes slice answer same post out lent call takes =
    got (post_view p) bytes (ap (λ (k : State). k.post) (sym same) ∙ (post ∙ ap (option_map post_view) out)) call
    (subst (λ b. TakesPostReply now p.count b u answer t) lent takes)
