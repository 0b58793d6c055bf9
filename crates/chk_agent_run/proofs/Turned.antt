-- A turn of the agent leaves it the same, and ready where it was made.
use Rattle.std.proofs.Common.{◌≡◌, ℕ, Bool, Option, Result, Ok, Err, ◌∙◌, refl, sym}
use Rattle.chk_site.specs.declared.acts.Role.TheVariants.{Agent}
use Rattle.chk_site.specs.declared.acts.Who.{Who}
use Rattle.chk_site.specs.History.{History}
use Rattle.chk_agent.specs.declared.answers.AgentFault.{AgentFault}
use Rattle.chk_agent.specs.declared.answers.Settled.{Settled}
use Rattle.chk_agent.specs.States.{State, process}
use Rattle.chk_agent.specs.Settles.{IsSettled, same, written}
use Rattle.chk_agent.specs.Turns.{IsTurned, unfilled, unposted, unanswered, unpolled, unsettled, turned}
use Rattle.chk_agent.proofs.TurningTold.{IsSameAgent, same_then, filled_same, posts_same, replies_same, due_same}
use Rattle.chk_agent.proofs.Alike.{settled_source}

settled_same : {now : ℕ} {s t : State} {settled : Settled} {old new : Option History} → IsSettled now s (Ok settled) t old new
    → IsSameAgent s t
settled_same (same is) = record { source = refl; ready = refl }
settled_same (written other writes) = record { source = refl; ready = refl }

pub turned_same : {now : ℕ} {s t : State} {full : Bool} {old new : Option History} → IsTurned now s (Ok full) t old new → IsSameAgent s t
turned_same {s = s} {t = x} (turned {t = t} {u = u} {v = v} {w = w} filled posted answered settled fills posts replies polls settles) =
    same_then s t x (filled_same fills)
    (same_then t u x (posts_same posts)
    (same_then u v x (replies_same replies) (same_then v w x (due_same polls) (settled_same settles))))

pub turned_source : {now : ℕ} {s t : State} {result : Result Bool AgentFault} {old new : Option History}
    → IsTurned now s result t old new → t.source ≡ s.source
turned_source (unfilled fault fills) = (filled_same fills).source
turned_source (unposted filled fault fills posts) = (posts_same posts).source ∙ (filled_same fills).source
turned_source (unanswered filled posted fault fills posts replies) =
    (replies_same replies).source ∙ ((posts_same posts).source ∙ (filled_same fills).source)
turned_source (unpolled filled posted answered fault fills posts replies polls) =
    (due_same polls).source ∙ ((replies_same replies).source ∙ ((posts_same posts).source ∙ (filled_same fills).source))
turned_source (unsettled filled posted answered fault fills posts replies polls settles) =
    settled_source settles
    ∙ ((due_same polls).source ∙ ((replies_same replies).source ∙ ((posts_same posts).source ∙ (filled_same fills).source)))
turned_source (turned filled posted answered settled fills posts replies polls settles) =
    settled_source settles
    ∙ ((due_same polls).source ∙ ((replies_same replies).source ∙ ((posts_same posts).source ∙ (filled_same fills).source)))

-- the process of a state of the same source
pub process_on : (who : Who) (s t : State) → who ≡ process s → t.source ≡ s.source → who ≡ process t
process_on who s t is source = is ∙ (λ i. record { role = Agent; name = sym_source i })
  where
    sym_source : s.source ≡ t.source
    sym_source = sym source
