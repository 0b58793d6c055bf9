-- How words are hashed.
use Rattle.std.specs.Hash.DefaultHasher.{initial}
use Rattle.std.specs.RandomState.{initial_hasher}
use Rattle.std.specs.declared.hash.DefaultHasher.{DefaultHasher}
use Rattle.chk_agent_table.specs.declared.hashing.Hashing.{Hashing}
use Rattle.chk_agent_table.specs.declared.hashing.Hashing.TheVariants.{Fixed, Random}

-- the hasher before the first word
abbrev pub first_hasher : Hashing → DefaultHasher
first_hasher Fixed = initial
first_hasher (Random keys) = initial_hasher keys
