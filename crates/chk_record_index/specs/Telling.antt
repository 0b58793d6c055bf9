-- What it tells of the last key, how the next one was written.
use Rattle.std.specs.Prelude.{ℕ, List}
use Rattle.chk_chunk.specs.Keys.{Key}
use Rattle.chk_record_index.specs.declared.last_key.Written.{Written}
use Rattle.chk_record_index.specs.declared.last_key.Written.TheVariants.{Over, Anew}
use Rattle.chk_record_index.specs.LastKeys.{IsButSeq}

-- it was written over the last one exactly where that was it but for the sequence id
abbrev pub Tells : Written → Key → List ℕ → Type 0
Tells Over k last = IsButSeq k last
Tells Anew k last = IsButSeq k last → ⊥
