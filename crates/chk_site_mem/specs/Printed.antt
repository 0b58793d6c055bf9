-- What was printed.
use Rattle.std.specs.Prelude.{ℕ, List, [], ◌∷◌, ◌++◌}
use Rattle.chk_site.specs.declared.acts.Act.{Act}
use Rattle.chk_site.specs.declared.acts.ActAnswer.{ActAnswer}
use Rattle.chk_site.specs.declared.acts.ActAnswer.TheVariants.{Done}
use Rattle.chk_site.specs.Acts.{Deed, Says, deed}

-- the bytes that a call with this answer printed
abbrev pub said_by : Deed → ActAnswer → List ℕ
said_by (Says bytes) (Done words number of) = bytes
said_by call answer = []

-- the bytes that an act printed
abbrev pub said_in : Act → List ℕ
said_in act = said_by (deed act) act.answer

-- the bytes that acts printed, in order
abbrev pub printed_of : List Act → List ℕ
printed_of [] = []
printed_of (act ∷ acts) = said_in act ++ printed_of acts
