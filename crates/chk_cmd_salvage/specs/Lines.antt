-- The lines that tell what can be read of a SequenceFile.
use Rattle.std.specs.Prelude.{◌≡◌, ◌⊎◌, ℕ, List, [], ◌∷◌, ◌++◌, decimal, codes}
use Rattle.chk_chunk.specs.Keys.{Key, IsKey}
use Rattle.chk_seqfile.specs.Entries.{Placed}
use Rattle.chk_salvage.specs.Front.{Item, Kept, Skipped}

-- where a record begins and ends, and the stream and the end of its chunk
abbrev pub entry_line : Placed → Key → List ℕ
entry_line r k =
    codes "entry "
    ++ (decimal r.at
    ++ (32 ∷ (decimal r.end
    ++ (32 ∷ (k.stream.source
    ++ (32 ∷ (k.stream.kind
    ++ (32 ∷ (k.stream.name
    ++ (32 ∷ (decimal k.seq ++ 10 ∷ [])))))))))))

-- where another record begins and ends
abbrev pub other_line : Placed → List ℕ
other_line r = codes "other " ++ (decimal r.at ++ (32 ∷ (decimal r.end ++ 10 ∷ [])))

-- the range that was skipped
abbrev pub skipped_line : ℕ → ℕ → List ℕ
skipped_line begin end = codes "skipped " ++ (decimal begin ++ (32 ∷ (decimal end ++ 10 ∷ [])))

-- the line of a record: by its key, where its key is a chunk's
abbrev pub IsRecordLine : Placed → List ℕ → Type 0
IsRecordLine r line =
    ((k : Key) × IsKey k r.key × (line ≡ entry_line r k)) ⊎ (((k : Key) → IsKey k r.key → ⊥) × (line ≡ other_line r))

-- the line of a record or a skipped range
abbrev pub IsLine : Item → List ℕ → Type 0
IsLine (Kept r) line = IsRecordLine r line
IsLine (Skipped begin end) line = line ≡ skipped_line begin end

-- the lines of these, one after the other
abbrev pub AreLines : List Item → List ℕ → Type 0
AreLines [] text = text ≡ []
AreLines (item ∷ items) text =
    (line : List ℕ) × (rest : List ℕ) × IsLine item line × AreLines items rest × (text ≡ line ++ rest)
