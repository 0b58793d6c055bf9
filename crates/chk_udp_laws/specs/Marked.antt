-- What a writer of datagrams took, which payloads are saved, and what its files hold of them.
use Rattle.std.specs.Prelude.{ℕ, zero, suc, Bool, true, false, ◌&&◌, List, [], ◌∷◌, ◌++◌, take, bytes_eq, if◌then◌else◌, Option, Some, None}
use Rattle.chk_bytes.specs.Numbers.{spelled}
use Rattle.chk_site.specs.declared.acts.ActAnswer.{ActAnswer}
use Rattle.chk_site.specs.declared.acts.ActAnswer.TheVariants.{Done}
use Rattle.chk_site.specs.Files.{File, Files}
use Rattle.chk_site.specs.Acts.{Deed, Starts, Takes, Appends, Renames, deed, is_done}
use Rattle.chk_site.specs.History.{History, files_after, is_by, took_effect}
use Rattle.chk_wahead.specs.Names.{writer, buffer_name, mark_name, closed_name}

-- the bytes of a file, none where it isn't there
abbrev pub bytes_in : Option File → List ℕ
bytes_in None = []
bytes_in (Some f) = f.bytes

-- the files up to this number, one behind the other
abbrev pub closed_in : (ℕ → Option File) → ℕ → List ℕ
closed_in closed zero = bytes_in (closed 0)
closed_in closed (suc k) = closed_in closed k ++ bytes_in (closed (suc k))

-- so many of the buffer's first bytes as its mark says; none without the one or the other
abbrev pub under_mark : Option File → Option File → List ℕ
under_mark (Some buffer) (Some mark) = take (spelled mark.bytes) buffer.bytes
under_mark buffer mark = []

-- all of the writer's that is marked: its closed buffers up to this number in their order, and then
-- what the
-- mark says of the buffer
abbrev pub marked : Files → List ℕ → ℕ → List ℕ
marked files n last =
    closed_in (λ k. files (closed_name n k)) last ++ under_mark (files (buffer_name n))
    (files (mark_name n))

-- what a taking gave
abbrev pub given_by : Deed → ActAnswer → List (List ℕ)
given_by (Takes door wait) (Done (bytes ∷ words) number of) = bytes ∷ []
given_by call answer = []

-- the payloads of the takings of the writer, in order
abbrev pub took : List ℕ → History → List (List ℕ)
took n [] = []
took n (step ∷ history) =
    if is_by (writer n) step
    then took n history ++ given_by (deed step.act) step.act.answer
    else took n history

-- the payloads whose run published a mark after it had added them to the buffer, in order; and
-- those
-- that the run has added and that no mark came after
pub record Tally : Type 0 where
  pub saved : List (List ℕ)
  pub unsaved : List (List ℕ)

-- nothing was added yet
abbrev pub nothing_yet : Tally
nothing_yet = record { saved = []; unsaved = [] }

-- an append of these bytes to the buffer; one that wasn't done adds no payload
abbrev pub added : Bool → List ℕ → Tally → Tally
added true bytes t = record { saved = t.saved; unsaved = t.unsaved ++ bytes ∷ [] }
added false bytes t = t

-- a mark was published
abbrev pub saved_all : Tally → Tally
saved_all t = record { saved = t.saved ++ t.unsaved; unsaved = [] }

-- a start forgets what wasn't marked
abbrev pub forgotten : Tally → Tally
forgotten t = record { saved = t.saved; unsaved = [] }

-- after an own step of the writer, between these files
abbrev pub tally_by : List ℕ → Deed → ActAnswer → Files → Files → Tally → Tally
tally_by n Starts answer before after t = forgotten t
tally_by n (Appends name bytes) answer before after t =
    if bytes_eq name (buffer_name n) then added (is_done answer) bytes t else t
tally_by n (Renames old new) answer before after t =
    if bytes_eq new (mark_name n) && took_effect before after old then saved_all t else t
tally_by n call answer before after t = t

-- after the history
abbrev pub tally : List ℕ → History → Tally
tally n [] = nothing_yet
tally n (step ∷ history) =
    if is_by (writer n) step
    then tally_by n (deed step.act) step.act.answer (files_after history) step.files
    (tally n history)
    else tally n history

-- payloads one behind the other
abbrev pub joined : List (List ℕ) → List ℕ
joined [] = []
joined (bytes ∷ rest) = bytes ++ joined rest

-- the first list is the second one without some of its items
pub data IsPart : List (List ℕ) → List (List ℕ) → Type 0 where
  empty : IsPart [] []
  kept : {bytes : List ℕ} {some all : List (List ℕ)} → IsPart some all
      → IsPart (bytes ∷ some) (bytes ∷ all)
  left_out : {bytes : List ℕ} {some all : List (List ℕ)} → IsPart some all
      → IsPart some (bytes ∷ all)
