-- A kept act is one that the file model allows.
use Rattle.std.proofs.Common.{◌≡◌, inl, inr, ℕ, ◌+◌, ◌-◌, ◌<◌, ◌≤◌, ◌^◌, Bool, true, false, List, [], ◌∷◌, ◌++◌, length, map, take, Option, Some, None, refl, sym, ap, subst, arith}
use Rattle.std.specs.Prelude.{bytes_eq, if◌then◌else◌, option_map}
use Rattle.std.proofs.lemmas.List.{length-append, length-take}
use Rattle.chk_site.specs.declared.acts.Act.{Act}
use Rattle.chk_site.specs.declared.lists.Left.{Left}
use Rattle.chk_site.specs.declared.acts.CallFault.TheVariants.{Failed, Missing, Exists, Short, NoMemory}
use Rattle.chk_site.specs.declared.acts.ActAnswer.{ActAnswer}
use Rattle.chk_site.specs.declared.acts.ActAnswer.TheVariants.{Done, Refused, Stopped, Rotated, Deleted}
use Rattle.chk_site.specs.Files.{File, Files, Change, Nothing, Created, Grown, Secured, Moved, Gone, Shortened, LogGrown, LogTurned, LogDropped, changed, made, grown, secured, shortened, moved}
use Rattle.chk_site.specs.Logs.{Generation, Logs, log_grown, log_turned, log_dropped, log_size, logs_changed, marked, size_of}
use Rattle.chk_site.specs.Acts.{Deed, Appends, GrowsLog, deed, change_of, tail_of, MayHave, HasHalf, Did}
use Rattle.chk_site.specs.Effect.{UnsyncedTails, TailFits, with_tail, in_work, IsSmallFile, StaysSmall}
use Rattle.chk_site.specs.History.{History, Modelled, files_after, logs_after}
use Rattle.chk_site_mem_store.specs.Told.{kept_as, did_by, failed_change, stopped_change, tails_left, step_of, is_allowed, fitting, fitted_left, fitted_answer, fitted}
use Rattle.chk_site_mem_store.specs.Room.{file_size, HasRoom}
use Rattle.chk_site_mem_store.proofs.NamedLemmas.{same_bytes, bytes_same}
use Rattle.chk_site_mem_store.proofs.StopLemmas.{middle_same}

-- a file has no more synced bytes than it has bytes
abbrev pub IsSound : Option File → Type 0
IsSound None = Unit {0}
IsSound (Some file) = file.synced ≤ length file.bytes

sound_made : (file : Option File) → IsSound file → IsSound (made file)
sound_made None sound = omega arith
sound_made (Some file) sound = sound

sound_grown : (piece : List ℕ) (file : Option File) → IsSound file → IsSound (option_map (grown piece) file)
sound_grown piece None sound = tt
sound_grown piece (Some file) sound = omega (arith, length-append file.bytes piece)

sound_secured : (file : Option File) → IsSound (option_map secured file)
sound_secured None = tt
sound_secured (Some file) = omega arith

sound_shortened : (n : ℕ) (file : Option File) → IsSound file → IsSound (option_map (shortened n) file)
sound_shortened n None sound = tt
sound_shortened n (Some file) sound = omega (arith, length-take n file.bytes)

sound_if : (b : Bool) (x y : Option File) → IsSound x → IsSound y → IsSound (if b then x else y)
sound_if true x y sx sy = sx
sound_if false x y sx sy = sy

sound_moved : (file : Option File) (old new : List ℕ) (files : Files) (name : List ℕ) → IsSound file → IsSound (files name)
    → IsSound (moved file old new files name)
sound_moved None old new files name sound other = other
sound_moved (Some file) old new files name sound other =
    sound_if (bytes_eq name new) (Some file) (if bytes_eq name old then None else files name) sound
    (sound_if (bytes_eq name old) None (files name) tt other)

-- no change takes that away
sound_changed : (change : Change) (files : Files) → ((name : List ℕ) → IsSound (files name)) → (name : List ℕ)
    → IsSound (changed change files name)
sound_changed Nothing files sound name = sound name
sound_changed (Created n) files sound name = sound_if (bytes_eq name n) _ _ (sound_made (files name) (sound name)) (sound name)
sound_changed (Grown n piece) files sound name =
    sound_if (bytes_eq name n) _ _ (sound_grown piece (files name) (sound name)) (sound name)
sound_changed (Secured n) files sound name = sound_if (bytes_eq name n) _ _ (sound_secured (files name)) (sound name)
sound_changed (Moved old new) files sound name = sound_moved (files old) old new files name (sound old) (sound name)
sound_changed (Gone n) files sound name = sound_if (bytes_eq name n) None (files name) tt (sound name)
sound_changed (Shortened n k) files sound name =
    sound_if (bytes_eq name n) _ _ (sound_shortened k (files name) (sound name)) (sound name)
sound_changed (LogGrown path piece) files sound name = sound name
sound_changed (LogTurned path suffix) files sound name = sound name
sound_changed (LogDropped path suffix) files sound name = sound name

-- a call that failed may have done so
may_fail : (change : Change) → MayHave change (failed_change change)
may_fail Nothing = refl
may_fail (Created n) = inl refl
may_fail (Grown n piece) = inr (take 20 piece, omega (arith, length-take 20 piece), refl)
may_fail (Secured n) = refl
may_fail (Moved old new) = inl refl
may_fail (Gone n) = inl refl
may_fail (Shortened n k) = inl refl
may_fail (LogGrown path piece) = inr (take 20 piece, omega (arith, length-take 20 piece), refl)
may_fail (LogTurned path suffix) = inl refl
may_fail (LogDropped path suffix) = inl refl

-- a stop may have left so
may_stop : (left : List Left) (change : Change) → HasHalf change left (stopped_change left change)
may_stop left Nothing = refl
may_stop left (Created n) = refl
may_stop left (Grown n piece) = refl
may_stop left (Secured n) = refl
may_stop left (Moved old new) = refl
may_stop left (Gone n) = refl
may_stop left (Shortened n k) = refl
may_stop left (LogGrown path piece) = ([], omega arith, refl)
may_stop left (LogTurned path suffix) = refl
may_stop left (LogDropped path suffix) = refl

-- an allowed act may have done what it did
did_may : (call : Deed) (answer : ActAnswer) → is_allowed call answer ≡ true → Did call answer (did_by call answer)
did_may call (Done words number of) ok = refl
did_may call (Refused Failed) ok = may_fail (change_of call)
did_may call (Refused Missing) ok = refl
did_may call (Refused Exists) ok = refl
did_may call (Refused (Short size)) ok = refl
did_may call (Refused NoMemory) ok = refl
did_may call (Stopped left) ok = may_stop left (change_of call)
did_may (GrowsLog path piece) (Rotated suffix) ok = (ok, refl)
did_may (GrowsLog path piece) (Deleted suffix) ok = refl
did_may call (Rotated suffix) ok = refl
did_may call (Deleted suffix) ok = refl

-- a cut tail is allowed
fits_one : (extra : ℕ) (file : Option File) (tail : List ℕ) → IsSound file → TailFits extra (Some (fitting extra file tail)) file
fits_one extra None tail sound = tt
fits_one extra (Some file) tail sound = omega (arith, length-take (length file.bytes + extra - file.synced) tail)

fits_none : (extra : ℕ) (file : Option File) → TailFits extra None file
fits_none extra None = tt
fits_none extra (Some file) = tt

fits_head : (call : Deed) (middle : Files) (l : Left) (left : List Left) (name : List ℕ) (b : Bool) → bytes_eq name l.name ≡ b
    → IsSound (middle name)
    → TailFits (in_work call name) (tail_of (map (fitted_left call middle) left) name) (middle name)
    → TailFits (in_work call name) (tail_of (map (fitted_left call middle) (l ∷ left)) name) (middle name)
fits_head call middle l left name true t sound rest =
    rw t
    (subst (λ (n : List ℕ). TailFits (in_work call name) (Some (fitting (in_work call n) (middle n) l.tail)) (middle name))
    (same_bytes name l.name t) (fits_one (in_work call name) (middle name) l.tail sound))
fits_head call middle l left name false f sound rest = rw f rest

tails_fit : (call : Deed) (middle : Files) (left : List Left) (name : List ℕ) → IsSound (middle name)
    → TailFits (in_work call name) (tail_of (map (fitted_left call middle) left) name) (middle name)
tails_fit call middle [] name sound = fits_none (in_work call name) (middle name)
tails_fit call middle (l ∷ left) name sound =
    fits_head call middle l left name (bytes_eq name l.name) refl sound (tails_fit call middle left name sound)

-- the files that an act leaves
tails_allowed : (call : Deed) (files : Files) (answer : ActAnswer) → ((name : List ℕ) → IsSound (files name))
    → UnsyncedTails call (fitted_answer call files answer) (changed (did_by call (fitted_answer call files answer)) files)
    (tails_left (fitted_answer call files answer) (changed (did_by call (fitted_answer call files answer)) files))
tails_allowed call files (Done words number of) sound = λ name. refl
tails_allowed call files (Refused fault) sound = λ name. refl
tails_allowed call files (Stopped left) sound =
    let middle = changed (stopped_change left (change_of call)) files in
    let left' = map (fitted_left call middle) left in
    let same = middle_same call files left left' middle refl in
    λ name. (
      refl,
      subst (λ (change : Change). TailFits (in_work call name) (tail_of left' name) (changed change files name)) (sym same)
          (tails_fit call middle left name (sound_changed (stopped_change left (change_of call)) files sound name)),
    )
tails_allowed call files (Rotated suffix) sound = λ name. refl
tails_allowed call files (Deleted suffix) sound = λ name. refl

same_name : {X : Type 0} (name : List ℕ) (x y : X) → (if bytes_eq name name then x else y) ≡ x
same_name name x y = rw (bytes_same name name refl) refl

-- a file stays small
small_same : (file : Option File) (more : ℕ) → file_size file + more < 2 ^ 63 → IsSmallFile file
small_same None more room = tt
small_same (Some file) more room = omega arith

small_grown : (file : Option File) (piece : List ℕ) (more : ℕ) → file_size file + more < 2 ^ 63 → length piece ≤ more
    → IsSmallFile (option_map (grown piece) file)
small_grown None piece more room most = tt
small_grown (Some file) piece more room most = omega (arith, length-append file.bytes piece)

small_tailed : (file : Option File) (tail : Option (List ℕ)) (more : ℕ) → file_size file + more < 2 ^ 63 → IsSound file
    → TailFits more tail file → IsSmallFile (option_map (with_tail tail) file)
small_tailed None tail more room sound fits = tt
small_tailed (Some file) None more room sound fits = omega arith
small_tailed (Some file) (Some tail) more room sound fits =
    omega (arith, length-append (take file.synced file.bytes) tail, length-take file.synced file.bytes)

small_append : (name piece : List ℕ) (files : Files) (answer : ActAnswer) → ((n : List ℕ) → IsSound (files n))
    → file_size (files name) + length piece < 2 ^ 63
    → IsSmallFile (tails_left (fitted_answer (Appends name piece) files answer)
    (changed (did_by (Appends name piece) (fitted_answer (Appends name piece) files answer)) files) name)
small_append name piece files (Done words number of) sound room =
    rw (same_name name (option_map (grown piece) (files name)) (files name))
    (small_grown (files name) piece (length piece) room (omega arith))
small_append name piece files (Refused Failed) sound room =
    rw (same_name name (option_map (grown (take 20 piece)) (files name)) (files name))
    (small_grown (files name) (take 20 piece) (length piece) room (omega (arith, length-take 20 piece)))
small_append name piece files (Refused Missing) sound room = small_same (files name) (length piece) room
small_append name piece files (Refused Exists) sound room = small_same (files name) (length piece) room
small_append name piece files (Refused (Short size)) sound room = small_same (files name) (length piece) room
small_append name piece files (Refused NoMemory) sound room = small_same (files name) (length piece) room
small_append name piece files (Stopped left) sound room =
    let call = Appends name piece in
    let fits : TailFits (length piece) (tail_of (map (fitted_left call files) left) name) (files name) =
    rw same_name at (tails_fit call files left name (sound name)) in
    small_tailed (files name) (tail_of (map (fitted_left call files) left) name) (length piece) room (sound name) fits
small_append name piece files (Rotated suffix) sound room = small_same (files name) (length piece) room
small_append name piece files (Deleted suffix) sound room = small_same (files name) (length piece) room

-- a log stays small
size_marked : (suffix : List ℕ) (gs : List Generation) → size_of (marked suffix gs) ≡ size_of gs
size_marked suffix [] = refl
size_marked suffix (g ∷ gs) = ap (λ n. length g.bytes + n) (size_marked suffix gs)

size_turned : (gs : List Generation) (g : Generation) → size_of (gs ++ g ∷ []) ≡ size_of gs + length g.bytes
size_turned [] g = omega arith
size_turned (h ∷ gs) g = omega (arith, size_turned gs g)

small_log_append : (path piece : List ℕ) (files : Files) (logs : Logs) (answer : ActAnswer)
    → log_size (logs path) + length piece < 2 ^ 62
    → log_size (logs_changed (did_by (GrowsLog path piece) (fitted_answer (GrowsLog path piece) files answer)) logs path) < 2 ^ 62
small_log_append path piece files logs (Done words number of) room =
    rw (same_name path (log_grown piece (logs path)) (logs path)) (omega (arith, length-append (logs path).base piece))
small_log_append path piece files logs (Refused Failed) room =
    rw (same_name path (log_grown (take 20 piece) (logs path)) (logs path))
    (omega (arith, length-append (logs path).base (take 20 piece), length-take 20 piece))
small_log_append path piece files logs (Refused Missing) room = omega arith
small_log_append path piece files logs (Refused Exists) room = omega arith
small_log_append path piece files logs (Refused (Short size)) room = omega arith
small_log_append path piece files logs (Refused NoMemory) room = omega arith
small_log_append path piece files logs (Stopped left) room =
    rw (same_name path (log_grown [] (logs path)) (logs path)) (omega (arith, length-append (logs path).base []))
small_log_append path piece files logs (Rotated suffix) room =
    rw (same_name path (log_turned suffix (logs path)) (logs path))
    (omega (arith, size_turned (logs path).rotated (record { suffix = suffix; bytes = (logs path).base; deleted = false })))
small_log_append path piece files logs (Deleted suffix) room =
    rw (same_name path (log_dropped suffix (logs path)) (logs path)) (omega (arith, size_marked suffix (logs path).rotated))

stays_small : (call : Deed) (files : Files) (logs : Logs) (answer : ActAnswer) → ((n : List ℕ) → IsSound (files n))
    → HasRoom call files logs
    → StaysSmall call
    (tails_left (fitted_answer call files answer) (changed (did_by call (fitted_answer call files answer)) files))
    (logs_changed (did_by call (fitted_answer call files answer)) logs)
stays_small (Appends name piece) files logs answer sound room = small_append name piece files answer sound room
stays_small (GrowsLog path piece) files logs answer sound room = small_log_append path piece files logs answer room
stays_small call files logs answer sound room = tt

stop_allowed : (call : Deed) (left : List Left) → is_allowed call (Stopped left) ≡ true
stop_allowed (GrowsLog path piece) left = refl
stop_allowed call left = refl

fitted_allowed : (call : Deed) (files : Files) (answer : ActAnswer) → is_allowed call answer ≡ true
    → is_allowed call (fitted_answer call files answer) ≡ true
fitted_allowed call files (Done words number of) ok = ok
fitted_allowed call files (Refused fault) ok = ok
fitted_allowed call files (Stopped left) ok =
    stop_allowed call (map (fitted_left call (changed (stopped_change left (change_of call)) files)) left)
fitted_allowed call files (Rotated suffix) ok = ok
fitted_allowed call files (Deleted suffix) ok = ok

-- the file model allows the step of an act that is allowed and has room
pub modelled : (history : History) (own : Bool) (act : Act) → ((name : List ℕ) → IsSound (files_after history name))
    → is_allowed (deed act) act.answer ≡ true → HasRoom (deed act) (files_after history) (logs_after history)
    → Modelled history (step_of history (kept_as own (fitted (files_after history) act)))
modelled history own act sound ok room =
    let call = deed act in
    let files = files_after history in
    record {
      effect = record {
        did = did_by call (fitted_answer call files act.answer);
        may = did_may call (fitted_answer call files act.answer) (fitted_allowed call files act.answer ok);
        files_left = tails_allowed call files act.answer sound;
        logs_left = λ path. refl;
      };
      small = stays_small call files (logs_after history) act.answer sound room;
    }
