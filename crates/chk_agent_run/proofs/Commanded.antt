-- A control line leaves the agent the same, and ready where it was answered.
use Rattle.std.proofs.Common.{◌≡◌, ℕ, List, Option, Some, None, Result, Ok, Err, ap, subst, ◌∙◌, refl}
use Rattle.std.proofs.lemmas.Option.{same_Some, none-some}
use Rattle.chk_control.specs.declared.commands.Command.TheVariants.{Blank, Add, Close, Help, List as ListAll, ReloadCollectors, Stop, StopAll, Shutdown, StopAgent}
use Rattle.chk_control.specs.Lines.{Meaning, meaning_of}
use Rattle.chk_site.specs.History.{History}
use Rattle.chk_agent_adaptor.specs.Adaptors.{Adaptor}
use Rattle.chk_agent.specs.declared.answers.AgentFault.{AgentFault}
use Rattle.chk_agent.specs.declared.answers.Reply.{Reply}
use Rattle.chk_agent.specs.States.{State}
use Rattle.chk_agent.specs.Adds.{TakesStream, written, failed, unwritten, unkept, unasked, wanting as take_wanting, unbegun}
use Rattle.chk_agent.specs.Commands.{Effect, plain_effect, stop_effect, shutdown_effect, ending, IsCommand, plainly, refused_add, added, failed_add, wanting}
use Rattle.chk_agent.proofs.TurningTold.{IsSameAgent, same_agent}
use Rattle.chk_agent.proofs.Alike.{same_as, with_same}

-- the effect that some says
same_effect : (s : State) (f e : Effect) → Some f ≡ Some e → IsSameAgent s f.next → IsSameAgent s e.next
same_effect s f e is = subst (λ (k : Effect). IsSameAgent s k.next) (same_Some f e is)

ending_same : (i : ℕ) (o : Option Adaptor) (s : State) → IsSameAgent s (ending i o s)
ending_same i None s = same_agent s
ending_same i (Some a) s = record { source = refl; ready = refl }

stop_same : (name : List ℕ) (o : Option ℕ) (s : State) (e : Effect) → stop_effect name o s ≡ Some e → IsSameAgent s e.next
stop_same name None s e is = same_effect s _ e is (same_agent s)
stop_same name (Some i) s e is = same_effect s _ e is (record { source = refl; ready = refl })

shut_same : (name : List ℕ) (o : Option ℕ) (s : State) (e : Effect) → shutdown_effect name o s ≡ Some e → IsSameAgent s e.next
shut_same name None s e is = same_effect s _ e is (same_agent s)
shut_same name (Some i) s e is = same_effect s _ e is (ending_same i _ s)

effect_same : (m : Meaning) (s : State) (e : Effect) → plain_effect m s ≡ Some e → IsSameAgent s e.next
effect_same (Ok Blank) s e is = same_effect s _ e is (same_agent s)
effect_same (Ok (Add name class kind path offset)) s e is = absurd (none-some e is)
effect_same (Ok Close) s e is = same_effect s _ e is (same_agent s)
effect_same (Ok Help) s e is = same_effect s _ e is (same_agent s)
effect_same (Ok ListAll) s e is = same_effect s _ e is (same_agent s)
effect_same (Ok ReloadCollectors) s e is = same_effect s _ e is (record { source = refl; ready = refl })
effect_same (Ok (Stop name)) s e is = stop_same name _ s e is
effect_same (Ok StopAll) s e is = same_effect s _ e is (record { source = refl; ready = refl })
effect_same (Ok (Shutdown name)) s e is = shut_same name _ s e is
effect_same (Ok StopAgent) s e is = same_effect s _ e is (same_agent s)
effect_same (Err fault) s e is = same_effect s _ e is (same_agent s)

pub command_same : {line : List ℕ} {s t : State} {reply : Reply} {old new : Option History}
    → IsCommand line s (Ok reply) t old new → IsSameAgent s t
command_same {line = line} {s = s} (plainly e is) = effect_same (meaning_of line) s e is
command_same {s = s} (refused_add given class kind path name offset n means names refuses) = same_agent s
command_same {s = s} (added given class kind path name offset means names none (written {t = t} after newest is writes)) =
    let k = same_as s t _ is (with_same s _ _) in record { source = k.source; ready = k.ready }

-- the source stays also where it was refused
pub command_source : {line : List ℕ} {s t : State} {result : Result Reply AgentFault} {old new : Option History}
    → IsCommand line s result t old new → t.source ≡ s.source
command_source {line = line} {s = s} (plainly e is) = (effect_same (meaning_of line) s e is).source
command_source (refused_add given class kind path name offset n means names refuses) = refl
command_source {s = s} (added given class kind path name offset means names none (written {t = t} after newest is writes)) =
    (same_as s t _ is (with_same s _ _)).source
command_source (failed_add given class kind path name offset fault means names none (failed after call newest is writes)) = refl
command_source (failed_add given class kind path name offset fault means names none (unwritten after newest is writes)) = refl
command_source (failed_add given class kind path name offset fault means names none (unkept after newest)) = refl
command_source (failed_add given class kind path name offset fault means names none (unasked asks told)) = refl
command_source (failed_add given class kind path name offset fault means names none (take_wanting asks told)) = refl
command_source (failed_add given class kind path name offset fault means names none unbegun) = refl
command_source wanting = refl
