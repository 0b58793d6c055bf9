-- The number that 8 bytes are, and that they are read whole.
use Rattle.std.proofs.Common.{◌≡◌, ℕ, ◌≤◌, ◌<◌, Bool, true, false, ◌&&◌, ◌==◌, List, [], ◌∷◌, length, take, drop, Option, Some, None, ap, sym, ◌∙◌, refl, arith, if◌then◌else◌}
use Rattle.std.specs.Prelude.{nat_le, nat_lt}
use Rattle.std.proofs.lemmas.Bool.{and_from, le-leb, lt-ltb}
use Rattle.std.proofs.lemmas.List.{take_all}
use Rattle.std.proofs.lemmas.Option.{same_Some, none-some}
use Rattle.chk_bytes.specs.Numbers.{spelled, limit}
use Rattle.chk_site.specs.declared.acts.CallFault.TheVariants.{Missing, Exists, Short}
use Rattle.chk_site.specs.declared.acts.ActAnswer.{ActAnswer}
use Rattle.chk_site.specs.declared.acts.ActAnswer.TheVariants.{Refused}
use Rattle.chk_site.specs.Files.{File}
use Rattle.chk_site.specs.Honest.{AtRead}
use Rattle.chk_site.specs.Site.{WasDone, WasRefused}
use Rattle.chk_sink.specs.Damage.{is_number_from, number_from}

-- a file of 8 bytes is read whole
pub read_whole : (bytes : List ℕ) (f : File) → bytes ∷ [] ≡ take 9 (drop 0 f.bytes) ∷ [] → length f.bytes ≡ 8 → bytes ≡ f.bytes
read_whole bytes f e eight = let same : bytes ≡ take 9 f.bytes = cc in same ∙ take_all 9 f.bytes (omega (arith, eight))

-- a call that was refused for the state of the files
pub refused_done : (answer : ActAnswer) → WasRefused answer → WasDone answer
refused_done (Refused Missing) was = tt
refused_done (Refused Exists) was = tt
refused_done (Refused (Short size)) was = tt
refused_done answer was = absurd was

-- a reading from the begin that was refused found no file
pub missing_read : (answer : ActAnswer) (max : ℕ) (o : Option File) → WasRefused answer → AtRead answer 0 max o → o ≡ None
missing_read (Refused Missing) max o was agrees = agrees
missing_read (Refused Exists) max o was agrees = absurd agrees
missing_read (Refused (Short size)) max None was agrees = absurd agrees
missing_read (Refused (Short size)) max (Some f) was agrees = let less : length f.bytes < 0 = agrees.0 in absurd (omega (arith, less))
missing_read answer max o was agrees = absurd was

-- 8 bytes of a number in the bounds
pub number_good : (least : ℕ) (bytes : List ℕ) → length bytes ≡ 8 → least ≤ spelled bytes → spelled bytes < limit → is_number_from least bytes ≡ true
number_good least bytes eight most small =
    and_from (length bytes == 8) (nat_le least (spelled bytes) && nat_lt (spelled bytes) limit) (ap (λ n. n == 8) eight)
    (and_from (nat_le least (spelled bytes)) (nat_lt (spelled bytes) limit) (le-leb least (spelled bytes) most) (lt-ltb (spelled bytes) limit small))

-- a number that was found
pub number_found : (least : ℕ) (bytes : List ℕ) (n : ℕ) → number_from least bytes ≡ Some n → (is_number_from least bytes ≡ true) × (spelled bytes ≡ n)
number_found least bytes n e = by (is_number_from least bytes) refl e
  where
    by : (b : Bool) → is_number_from least bytes ≡ b → (if b then Some (spelled bytes) else None) ≡ Some n → (is_number_from least bytes ≡ true) × (spelled bytes ≡ n)
    by true t e = (t, same_Some (spelled bytes) n e)
    by false t e = absurd (none-some n e)

-- none was found
pub number_none : (least : ℕ) (bytes : List ℕ) → number_from least bytes ≡ None → is_number_from least bytes ≡ false
number_none least bytes e = by (is_number_from least bytes) refl e
  where
    by : (b : Bool) → is_number_from least bytes ≡ b → (if b then Some (spelled bytes) else None) ≡ None → is_number_from least bytes ≡ false
    by false t e = t
    by true t e = absurd (none-some (spelled bytes) (sym e))
