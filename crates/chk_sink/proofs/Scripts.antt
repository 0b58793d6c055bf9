-- Calls in turn: after a stop they add nothing, and how they are told by other words.
use Rattle.std.proofs.Common.{◌≡◌, ℕ, true, List, [], ◌∷◌, ◌++◌, Option, Result, ap, sym, subst, ◌∙◌, refl}
use Rattle.chk_bytes.specs.Numbers.{be64}
use Rattle.chk_bytes.specs.Stems.{Stem}
use Rattle.chk_site.specs.declared.acts.Who.{Who}
use Rattle.chk_site.specs.declared.acts.Call.TheVariants.{Sync, Rename, Remove}
use Rattle.chk_site.specs.declared.acts.OutsideFault.{OutsideFault}
use Rattle.chk_site.specs.History.{History, is_stopped}
use Rattle.chk_site.specs.Site.{Adds, Asked, asked}
use Rattle.chk_site.specs.Runs.{MadeInTurn, finished, unbegun, went_on, ended}
use Rattle.chk_site.proofs.Runs.{adds_then, adds_as, adds_none}
use Rattle.chk_replace.specs.Replace.{replacement}
use Rattle.chk_world.specs.Names.{SinkFile, MarkFile, DoneFile, spell}
use Rattle.chk_sink.specs.Closing.{publishing, closing}

-- ---- after a stop they add nothing

abbrev pub StaysStopped : History → History → Type 0
StaysStopped added history = is_stopped history ≡ true → added ≡ []

pub stopped_script : {qs : List Asked} {result : Result (Unit {0}) OutsideFault} {old new : Option History} → MadeInTurn qs result old new
    → Adds old new StaysStopped
stopped_script finished = adds_none _ StaysStopped (λ h stopped. refl)
stopped_script unbegun = adds_none _ StaysStopped (λ h stopped. refl)
stopped_script (went_on given is told script) =
    adds_then StaysStopped told (stopped_script script)
    (λ a b h calls later stopped.
    let none = (calls.stopped stopped).0 in
    ap (λ (c : History). c ++ a) (later (subst (λ (a : History). is_stopped (a ++ h) ≡ true) (sym none) stopped)) ∙ none)
stopped_script (ended given is told) = adds_as StaysStopped told (λ a h calls stopped. (calls.stopped stopped).0)

-- ---- told by other words

pub publishing_by : {who : Who} (x : Stem) (n : ℕ) (sink mark bytes : List ℕ) {result : Result (Unit {0}) OutsideFault} {old new : Option History}
    → sink ≡ spell (SinkFile x) → mark ≡ spell (MarkFile x) → bytes ≡ be64 n
    → MadeInTurn (asked who Sync (sink ∷ []) 0 0 ∷ replacement who mark bytes) result old new → MadeInTurn (publishing who x n) result old new
publishing_by {who = who} x n sink mark bytes {result = result} {old = old} {new = new} s m b script =
    subst (λ qs. MadeInTurn qs result old new) (λ i. asked who Sync (s i ∷ []) 0 0 ∷ replacement who (m i) (b i)) script

pub closing_by : {who : Who} (x : Stem) (sink shut mark : List ℕ) {result : Result (Unit {0}) OutsideFault} {old new : Option History}
    → sink ≡ spell (SinkFile x) → shut ≡ spell (DoneFile x) → mark ≡ spell (MarkFile x)
    → MadeInTurn (asked who Rename (sink ∷ shut ∷ []) 0 0 ∷ asked who Remove (mark ∷ []) 0 0 ∷ []) result old new
    → MadeInTurn (closing who x) result old new
closing_by {who = who} x sink shut mark {result = result} {old = old} {new = new} s d m script =
    subst (λ qs. MadeInTurn qs result old new)
    (λ i. asked who Rename (s i ∷ d i ∷ []) 0 0 ∷ asked who Remove (m i ∷ []) 0 0 ∷ []) script
