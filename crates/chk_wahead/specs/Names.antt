-- The names of a writer's buffers, of their number and of their mark.
use Rattle.std.specs.Prelude.{ℕ, ◌-◌, List, ◌∷◌, ◌++◌, length, replicate, decimal, codes}
use Rattle.chk_site.specs.declared.acts.Role.TheVariants.{Writer}
use Rattle.chk_site.specs.declared.acts.Who.{Who}

-- the writer of this name
abbrev pub writer : List ℕ → Who
writer n = record { role = Writer; name = n }

-- the name of one of its files, by how it ends
abbrev pub file_name : List ℕ → List ℕ → List ℕ
file_name n ending = codes "wahead/" ++ (n ++ ending)

-- the number of its last buffer
abbrev pub next_name : List ℕ → List ℕ
next_name n = file_name n (codes ".next")

-- the buffer that is written to
abbrev pub buffer_name : List ℕ → List ℕ
buffer_name n = file_name n (codes ".buf")

-- how many bytes of it are committed
abbrev pub mark_name : List ℕ → List ℕ
mark_name n = file_name n (codes ".mark")

-- a number with 19 digits
abbrev pub digits : ℕ → List ℕ
digits k = replicate (19 - length (decimal k)) 48 ++ decimal k

-- the closed buffer of this number
abbrev pub closed_name : List ℕ → ℕ → List ℕ
closed_name n k = file_name n (45 ∷ digits k)
