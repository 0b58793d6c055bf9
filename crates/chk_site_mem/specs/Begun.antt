-- How a call begins, and what becomes of its act.
use Rattle.std.specs.Prelude.{◌≡◌, ◌⊎◌, true, false, List, Some, Result, Ok, Err}
use Rattle.chk_site.specs.declared.acts.Act.{Act}
use Rattle.chk_site.specs.declared.lists.Left.{Left}
use Rattle.chk_site.specs.declared.acts.CallFault.{CallFault}
use Rattle.chk_site.specs.declared.acts.CallFault.TheVariants.{Failed, NoMemory}
use Rattle.chk_site.specs.declared.acts.ActAnswer.TheVariants.{Refused, Stopped}
use Rattle.chk_site.specs.History.{History, is_stopped}
use Rattle.chk_site.specs.Site.{Adds}
use Rattle.chk_site_mem_store.specs.Told.{told_of, with_answer}
use Rattle.chk_site_mem_store.specs.Going.{TheirsSince, GoesOn}
use Rattle.chk_site_mem.specs.Memory.{Memory}

-- what became of an act that was to be made: it was made, or failed, or was stopped; without memory there is none
abbrev pub Becomes : {T : Type 0} → Act → Result T CallFault → History → History → Type 0
Becomes act (Ok value) before now = GoesOn act before now
Becomes act (Err Failed) before now =
    GoesOn (with_answer act (Refused Failed)) before now ⊎ ((left : List Left) × GoesOn (with_answer act (Stopped left)) before now)
Becomes act (Err NoMemory) before now = now ≡ before
Becomes act (Err fault) before now = ⊥

-- how a call began: others acted, and it goes on or there was no memory; after a stop nothing happens
abbrev pub Begins : {T : Type 0} → Result T CallFault → History → History → Type 0
Begins (Ok value) start now = (is_stopped start ≡ false) × TheirsSince start now
Begins (Err NoMemory) start now = (is_stopped start ≡ false) × TheirsSince start now
Begins (Err Failed) start now = (is_stopped start ≡ true) × (now ≡ start)
Begins (Err fault) start now = ⊥

-- what a call adds to the history that a site tells
abbrev pub Tells : Memory → Memory → (History → History → Type 0) → Type 0
Tells m new P = Adds (Some (told_of m.state.kept)) (Some (told_of new.state.kept)) P
