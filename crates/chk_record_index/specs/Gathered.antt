-- What is gathered of a file of records that is read in pieces.
use Rattle.std.specs.Prelude.{◌≡◌, ℕ, List, ◌++◌, length, Option, Some, None, Result, Ok, Err}
use Rattle.chk_site.specs.Files.{File}
use Rattle.chk_site.specs.History.{History}
use Rattle.chk_replace.specs.Load.{Has}
use Rattle.chk_world.specs.Books.{AllChunks}
use Rattle.chk_record_index.specs.Heads.{Head, heads_in}
use Rattle.chk_record_index.specs.Feeding.{IsBadAt, IsEnd}
use Rattle.chk_record_index.specs.Faults.{IsDamage}
use Rattle.chk_record_index.specs.Pieces.{bytes_in}
use Rattle.chk_record_index.specs.Shown.{Shown}
use Rattle.chk_record_index.specs.declared.fault.JobFault.{JobFault}
use Rattle.chk_record_index.specs.declared.fault.JobFault.TheVariants.{Damaged}

-- at Ok the file is one of chunks, and its heads stand behind the others; damage is of this file, at its place; after any
-- refusal the others stand as they were
abbrev pub Gathered : ℕ → List ℕ → Option File → ℕ → List Head → List Head → Result ℕ JobFault → History → Type 0
Gathered most name f number old new (Ok count) history =
    Has name f history × AllChunks most (bytes_in f) × (new ≡ old ++ heads_in most number (bytes_in f))
    × (count ≡ length (heads_in most number (bytes_in f)))
Gathered most name f number old new (Err (Damaged which at)) history = (new ≡ old) × (which ≡ name) × IsBadAt most (bytes_in f) at
Gathered most name f number old new (Err fault) history = new ≡ old

-- the same without the count; after another refusal than damage nothing is said
abbrev pub GatheredFile : ℕ → List ℕ → Option File → ℕ → List Head → List Head → Result (Unit {0}) JobFault → History → Type 0
GatheredFile most name f number old new (Ok value) history =
    Has name f history × AllChunks most (bytes_in f) × (new ≡ old ++ heads_in most number (bytes_in f))
GatheredFile most name f number old new (Err (Damaged which at)) history = (which ≡ name) × IsBadAt most (bytes_in f) at
GatheredFile most name f number old new (Err fault) history = Unit {0}

-- the file ends well there; or it is damaged there, by its name
abbrev pub EndsSo : List ℕ → List ℕ → ℕ → Result (Unit {0}) JobFault → Type 0
EndsSo name bytes place (Ok value) = IsEnd bytes place None
EndsSo name bytes place (Err fault) = (at : ℕ) × IsEnd bytes place (Some at) × IsDamage name at fault

-- what is told of a file with these bytes, but that it is still so
abbrev pub ToldOf : ℕ → List ℕ → List ℕ → ℕ → List Head → List Head → Result (Unit {0}) JobFault → Type 0
ToldOf most name bytes number old new (Ok value) = AllChunks most bytes × (new ≡ old ++ heads_in most number bytes)
ToldOf most name bytes number old new (Err (Damaged which at)) = (which ≡ name) × IsBadAt most bytes at
ToldOf most name bytes number old new (Err fault) = Unit {0}

-- the file is one of chunks with these heads, which stand behind the others
abbrev pub HasHeads : ℕ → ℕ → List Head → List Head → List ℕ → Type 0
HasHeads most number old new bytes = AllChunks most bytes × (new ≡ old ++ heads_in most number bytes)

-- What own reads of the file show, on every site: at Ok that it is one of chunks, with the heads that stand behind the others;
-- at damage, which is of this file, that from its place on it is none.
abbrev pub ShowsGathered : {T : Type 0} → ℕ → List ℕ → ℕ → List Head → List Head → Result T JobFault → History → History → Type 0
ShowsGathered most name number old new (Ok value) added history = Shown name (HasHeads most number old new) added history
ShowsGathered most name number old new (Err (Damaged which at)) added history =
    (which ≡ name) × Shown name (λ bytes. IsBadAt most bytes at) added history
ShowsGathered most name number old new (Err fault) added history = Unit {0}
