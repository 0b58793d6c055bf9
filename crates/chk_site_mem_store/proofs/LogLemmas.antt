-- Stored logs.
use Rattle.std.proofs.Common.{◌≡◌, ℕ, ◌+◌, ◌<◌, Bool, true, false, List, [], ◌∷◌, ◌++◌, length, map, take, set, get_or, Option, Some, None, Result, Ok, Err, refl, sym, ◌∙◌, ap, subst, arith}
use Rattle.std.specs.Prelude.{bytes_eq, if◌then◌else◌, option_map, position, is_some, OnOk, OnErr}
use Rattle.std.specs.List.{position_or_len}
use Rattle.std.proofs.lemmas.Bool.{lt-ltb, eq-eqb}
use Rattle.std.proofs.lemmas.List.{take_more, map-append, length_push}
use Rattle.std.proofs.lemmas.List.Folds.{position_or_len_push}
use Rattle.chk_site.specs.Files.{LogDropped}
use Rattle.chk_site.specs.Logs.{Generation, Log, log_dropped, logs_changed, marked, size_of}
use Rattle.chk_site_mem_store.specs.declared.named.Named.{Named}
use Rattle.chk_site_mem_store.specs.declared.logs.MemGeneration.{MemGeneration}
use Rattle.chk_site_mem_store.specs.declared.logs.MemLog.{MemLog}
use Rattle.chk_site_mem_store.specs.Named.{is_named, under}
use Rattle.chk_site_mem_store.specs.Stored.{generation_of, log_of, log_in, log_or_empty, empty_log, marked_one, StoresLogs}
use Rattle.chk_site_mem_store.proofs.NamedLemmas.{same_bytes, bytes_same, either_way, changed_at, pushed, none_named, is_there, position_past}

pub all_marked : (suffix : List ℕ) (gs : List MemGeneration)
    → map generation_of (map (marked_one suffix) gs) ≡ marked suffix (map generation_of gs)
all_marked suffix [] = refl
all_marked suffix (g ∷ gs) = ap (λ rest. generation_of (marked_one suffix g) ∷ rest) (all_marked suffix gs)

-- the bytes of two stretches of generations
size-append : (a b : List Generation) → size_of (a ++ b) ≡ size_of a + size_of b
size-append [] b = omega arith
size-append (g ∷ a) b = omega (arith, size-append a b)

-- one generation more
size_more : (gs : List MemGeneration) (i : ℕ) (d : MemGeneration) → i < length gs
    → size_of (map generation_of (take (i + 1) gs)) ≡ size_of (map generation_of (take i gs)) + length (get_or gs i d).bytes
size_more gs i d within =
    let g = get_or gs i d in
    let split : map generation_of (take (i + 1) gs) ≡ map generation_of (take i gs) ++ generation_of g ∷ [] =
    ap (map generation_of) (take_more gs i d within) ∙ map-append generation_of (take i gs) (g ∷ []) in
    let sum = size-append (map generation_of (take i gs)) (generation_of g ∷ []) in
    omega (arith, ap size_of split, sum)

-- the bytes counted so far, and those of one generation more
pub counted : (gs lent : List MemGeneration) (i n m base len : ℕ) (g : MemGeneration) → lent ≡ gs → i < length lent → g ≡ get_or lent i g
    → n ≡ base + size_of (map generation_of (take i gs)) → len ≡ length g.bytes → m ≡ n + len
    → m ≡ base + size_of (map generation_of (take (i + 1) gs))
counted gs lent i n m base len g same within is before here sum =
    let below : i < length gs = subst (λ (l : List MemGeneration). i < length l) same within in
    let read : length g.bytes ≡ length (get_or gs i g).bytes =
    ap (λ (x : MemGeneration). length x.bytes) (is ∙ ap (λ l. get_or l i g) same) in
    omega (arith, size_more gs i g below)

-- a choice of logs, where there is one
or_empty : (b : Bool) (log : Option Log) (G : Log → Log) → (b ≡ true → is_some log ≡ true)
    → log_or_empty (if b then option_map G log else log) ≡ (if b then G (log_or_empty log) else log_or_empty log)
or_empty true None G some = absurd (let e = some refl in cc)
or_empty true (Some log) G some = refl
or_empty false log G some = refl

-- the log of a path became what G makes of it
pub log_changed_at : (path : List ℕ) (logs start : List (Named MemLog)) (i : ℕ) (entry entry' : Named MemLog) (G : Log → Log)
    → position (is_named path) logs ≡ Some i → entry ≡ get_or logs i entry → entry'.name ≡ entry.name
    → G (log_of entry.value) ≡ log_of entry'.value → StoresLogs logs (log_in start)
    → (p : List ℕ) → log_in (set logs i entry') p ≡ (if bytes_eq p path then G (log_in start p) else log_in start p)
log_changed_at path logs start i entry entry' G at is same makes stores p =
    ap log_or_empty (changed_at log_of path logs i entry entry' (option_map G) at is same (ap (λ l. Some l) makes) p)
    ∙ or_empty (bytes_eq p path) (under log_of logs p) G
    (λ t. ap (λ n. is_some (under log_of logs n)) (same_bytes p path t) ∙ is_there log_of path logs i at)
    ∙ ap (λ l. if bytes_eq p path then G l else l) (stores.at p)

-- nobody has written to the log whose generation was to be deleted
pub none_dropped : (path suffix : List ℕ) (logs : List (Named MemLog)) → position (is_named path) logs ≡ None
    → StoresLogs logs (logs_changed (LogDropped path suffix) (log_in logs))
none_dropped path suffix logs at =
    record { at = λ p. by p (bytes_eq p path) refl }
  where
    by : (p : List ℕ) (b : Bool) → bytes_eq p path ≡ b
        → log_in logs p ≡ (if b then log_dropped suffix (log_in logs p) else log_in logs p)
    by p true t = rw (same_bytes p path t, none_named log_of path logs at) refl
    by p false f = refl

-- an empty log more tells nothing new
pub empty_pushed : (path : List ℕ) (logs : List (Named MemLog)) (entry : Named MemLog) → position (is_named path) logs ≡ None
    → entry.name ≡ path → log_of entry.value ≡ empty_log → StoresLogs (logs ++ entry ∷ []) (log_in logs)
empty_pushed path logs entry at is empty =
    record {
      at = λ p.
          let none = none_named log_of path logs at in
          let more : under log_of (logs ++ entry ∷ []) p ≡ (if bytes_eq p path then Some empty_log else under log_of logs p) =
          pushed log_of logs entry p (rw is none) ∙ rw (is, empty) refl in
          ap log_or_empty more ∙ by p (bytes_eq p path) refl;
    }
  where
    by : (p : List ℕ) (b : Bool) → bytes_eq p path ≡ b
        → log_or_empty (if b then Some empty_log else under log_of logs p) ≡ log_in logs p
    by p true t = rw (same_bytes p path t, none_named log_of path logs at) refl
    by p false f = refl

-- the entry that was put at the end is the first of its name
pub place-pushed : (path : List ℕ) (logs : List (Named MemLog)) (entry : Named MemLog) (n : ℕ) → position (is_named path) logs ≡ None
    → entry.name ≡ path → n ≡ length logs → position (is_named path) (logs ++ entry ∷ []) ≡ Some n
place-pushed path logs entry n at is same =
    let past : position_or_len (is_named path) logs ≡ length logs = position_past (is_named path) logs at in
    let here : is_named path entry ≡ true = bytes_same path entry.name (sym is) in
    let first : position_or_len (is_named path) (logs ++ entry ∷ []) ≡ n =
    position_or_len_push (is_named path) logs entry
    ∙ rw (eq-eqb _ _ past, here) (omega arith) in
    let longer = length_push logs entry in
    rw (first, lt-ltb n (length (logs ++ entry ∷ [])) (omega arith)) refl

-- the log of a path stayed as it was
pub log_kept_at : (path : List ℕ) (logs start : List (Named MemLog)) (i : ℕ) (entry entry' : Named MemLog)
    → position (is_named path) logs ≡ Some i → entry ≡ get_or logs i entry → entry'.name ≡ entry.name
    → log_of entry.value ≡ log_of entry'.value → StoresLogs logs (log_in start)
    → (p : List ℕ) → log_in (set logs i entry') p ≡ log_in start p
log_kept_at path logs start i entry entry' at is same keeps stores p =
    log_changed_at path logs start i entry entry' (λ l. l) at is same keeps stores p
    ∙ sym (either_way (bytes_eq p path) (log_in start p))

-- the same, by how a call came out
pub log_changed_on_ok : {T E : Type 0} (r : Result T E) (path : List ℕ) (logs start : List (Named MemLog)) (i : ℕ)
    (entry entry' : Named MemLog) (G : Log → Log)
    → position (is_named path) logs ≡ Some i → entry ≡ get_or logs i entry → entry'.name ≡ entry.name
    → StoresLogs logs (log_in start) → OnOk r (log_of entry'.value ≡ G (log_of entry.value))
    → OnOk r (StoresLogs (set logs i entry') (λ p. if bytes_eq p path then G (log_in start p) else log_in start p))
log_changed_on_ok (Ok value) path logs start i entry entry' G at is same stores makes =
    record { at = log_changed_at path logs start i entry entry' G at is same (sym makes) stores }
log_changed_on_ok (Err fault) path logs start i entry entry' G at is same stores makes = tt

pub log_kept_on_err : {T E : Type 0} (r : Result T E) (path : List ℕ) (logs start : List (Named MemLog)) (i : ℕ)
    (entry entry' : Named MemLog)
    → position (is_named path) logs ≡ Some i → entry ≡ get_or logs i entry → entry'.name ≡ entry.name
    → StoresLogs logs (log_in start) → OnErr r (log_of entry'.value ≡ log_of entry.value)
    → OnErr r (StoresLogs (set logs i entry') (log_in start))
log_kept_on_err (Ok value) path logs start i entry entry' at is same stores keeps = tt
log_kept_on_err (Err fault) path logs start i entry entry' at is same stores keeps =
    record { at = log_kept_at path logs start i entry entry' at is same (sym keeps) stores }
