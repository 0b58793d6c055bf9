-- What a stop leaves.
use Rattle.std.proofs.Common.{◌≡◌, ℕ, ◌-◌, Bool, true, false, List, [], ◌∷◌, length, map, take, Option, Some, None, refl, sym, ◌∙◌, ap, subst, arith}
use Rattle.std.specs.Prelude.{bytes_eq, if◌then◌else◌, option_map}
use Rattle.std.proofs.lemmas.List.{append-nil, length-append, length-take}
use Rattle.chk_site.specs.declared.acts.Act.{Act}
use Rattle.chk_site.specs.declared.lists.Left.{Left}
use Rattle.chk_site.specs.declared.acts.ActAnswer.{ActAnswer}
use Rattle.chk_site.specs.declared.acts.ActAnswer.TheVariants.{Stopped}
use Rattle.chk_site.specs.Files.{File, Files, Change, Nothing, Created, Grown, Secured, Moved, Gone, Shortened, LogGrown, LogTurned, LogDropped, changed}
use Rattle.chk_site.specs.Logs.{Log, Logs, log_grown, logs_changed}
use Rattle.chk_site.specs.Acts.{Deed, deed, change_of, says_whole, tail_of}
use Rattle.chk_site.specs.Effect.{with_tail}
use Rattle.chk_site_mem_store.specs.declared.named.Named.{Named}
use Rattle.chk_site_mem_store.specs.declared.files.MemFile.{MemFile}
use Rattle.chk_site_mem_store.specs.declared.logs.MemLog.{MemLog}
use Rattle.chk_site_mem_store.specs.Told.{fitted_answer, fitted_left, stopped_change, with_answer}
use Rattle.chk_site_mem_store.specs.Stored.{file_of, file_in, Stores, StoresLogs, IsLeft, tailed, tailed_file, middle_files}
use Rattle.chk_site_mem_store.proofs.NamedLemmas.{same_bytes}
use Rattle.chk_site_mem_store.proofs.FileLemmas.{file_is}

-- a stored file with its tail, as the file model sees it
tailed_is : (tail : Option (List ℕ)) (file : MemFile) → file_of (tailed_file tail file) ≡ with_tail tail (file_of file)
tailed_is None file = refl
tailed_is (Some tail) file =
    let synced = length file.bytes - file.loose in
    let front = length-take synced file.bytes in
    let whole = length-append (take synced file.bytes) tail in
    file_is _ _ refl (omega arith)

tailed_head : (left : List Left) (e : Named MemFile) (files : List (Named MemFile)) (name : List ℕ) (b : Bool) → bytes_eq name e.name ≡ b
    → file_in (map (tailed left) files) name ≡ option_map (with_tail (tail_of left name)) (file_in files name)
    → file_in (map (tailed left) (e ∷ files)) name ≡ option_map (with_tail (tail_of left name)) (file_in (e ∷ files) name)
tailed_head left e files name true t more =
    rw t (rw (same_bytes name e.name t) (ap (λ (f : File). Some f) (tailed_is (tail_of left e.name) e.value)))
tailed_head left e files name false f more = rw f more

-- the files with their tails
tailed_all : (left : List Left) (files : List (Named MemFile)) (name : List ℕ)
    → file_in (map (tailed left) files) name ≡ option_map (with_tail (tail_of left name)) (file_in files name)
tailed_all left [] name = refl
tailed_all left (e ∷ files) name = tailed_head left e files name (bytes_eq name e.name) refl (tailed_all left files name)

pub tails_stored : (left : List Left) (files tailed_files : List (Named MemFile)) (middle : Files) → Stores files middle
    → tailed_files ≡ map (tailed left) files → Stores tailed_files (λ name. option_map (with_tail (tail_of left name)) (middle name))
tails_stored left files tailed_files middle stores is =
    record {
      at = λ name.
          ap (λ fs. file_in fs name) is ∙ tailed_all left files name ∙ ap (option_map (with_tail (tail_of left name))) (stores.at name);
    }

-- the tails fit the same where the files are the same
pub fitted_same : (call : Deed) (a b : Files) (left : List Left) → ((name : List ℕ) → a name ≡ b name)
    → map (fitted_left call a) left ≡ map (fitted_left call b) left
fitted_same call a b [] same = refl
fitted_same call a b (l ∷ left) same = rw (same l.name, fitted_same call a b left same) refl

-- a cut tail changes nothing of what took place
whole_same : (call : Deed) (files : Files) (left : List Left) (name : List ℕ)
    → says_whole (map (fitted_left call files) left) name ≡ says_whole left name
whole_same call files [] name = refl
whole_same call files (l ∷ left) name = rw (whole_same call files left name) refl

stopped_same : (left left' : List Left) (change : Change) → ((name : List ℕ) → says_whole left' name ≡ says_whole left name)
    → stopped_change left' change ≡ stopped_change left change
stopped_same left left' Nothing same = refl
stopped_same left left' (Created name) same = rw (same name) refl
stopped_same left left' (Grown name piece) same = refl
stopped_same left left' (Secured name) same = refl
stopped_same left left' (Moved old new) same = rw (same old) refl
stopped_same left left' (Gone name) same = rw (same name) refl
stopped_same left left' (Shortened name n) same = rw (same name) refl
stopped_same left left' (LogGrown path piece) same = refl
stopped_same left left' (LogTurned path suffix) same = refl
stopped_same left left' (LogDropped path suffix) same = refl

pub middle_same : (call : Deed) (files : Files) (left left' : List Left) (answer : Files) → left' ≡ map (fitted_left call answer) left
    → stopped_change left' (change_of call) ≡ stopped_change left (change_of call)
middle_same call files left left' answer is =
    stopped_same left left' (change_of call)
    (λ name. ap (λ l. says_whole l name) is ∙ whole_same call answer left name)

either_log : (b : Bool) (change : Change) (logs : Logs) (path : List ℕ) → logs_changed change logs path ≡ logs path
    → logs_changed (if b then change else Nothing) logs path ≡ logs path
either_log true change logs path same = same
either_log false change logs path same = refl

nothing_more : (b : Bool) (log : Log) → (if b then log_grown [] log else log) ≡ log
nothing_more true log = ap (λ (bytes : List ℕ). let l : Log = record { rotated = log.rotated; base = bytes } in l) (append-nil log.base)
nothing_more false log = refl

-- a stop leaves the logs
pub logs_stopped : (left : List Left) (change : Change) (logs : Logs) (path : List ℕ)
    → logs_changed (stopped_change left change) logs path ≡ logs path
logs_stopped left Nothing logs path = refl
logs_stopped left (Created name) logs path = either_log (says_whole left name) (Created name) logs path refl
logs_stopped left (Grown name piece) logs path = refl
logs_stopped left (Secured name) logs path = refl
logs_stopped left (Moved old new) logs path = either_log (says_whole left old) (Moved old new) logs path refl
logs_stopped left (Gone name) logs path = either_log (says_whole left name) (Gone name) logs path refl
logs_stopped left (Shortened name n) logs path = either_log (says_whole left name) (Shortened name n) logs path refl
logs_stopped left (LogGrown p piece) logs path = nothing_more (bytes_eq path p) (logs path)
logs_stopped left (LogTurned p suffix) logs path = refl
logs_stopped left (LogDropped p suffix) logs path = refl

-- what a stop leaves, and the act that tells it
pub stop_leaves : (files : Files) (logs : Logs) (act back : Act) (left left' : List Left) (stored : List (Named MemFile))
    (kept : List (Named MemLog)) → act.answer ≡ Stopped left
    → left' ≡ map (fitted_left (deed act) (middle_files (deed act) left files)) left
    → Stores stored (λ name. option_map (with_tail (tail_of left' name)) (middle_files (deed act) left files name))
    → StoresLogs kept logs → back ≡ with_answer act (Stopped left') → IsLeft files logs act back stored kept
stop_leaves files logs act back left left' stored kept is fits stores stores_logs back_is =
    let call = deed act in
    let same = middle_same call files left left' (middle_files call left files) fits in
    let told : Act = with_answer act (Stopped left') in
    let left_of : IsLeft files logs act told stored kept = record {
      fits =
          ap (λ l. with_answer act (Stopped l)) fits
          ∙ ap (λ (a : ActAnswer). with_answer act (fitted_answer call files a)) (sym is);
      leaves = record {
        files_are = record {
          at = λ name.
              stores.at name
              ∙ ap (λ change. option_map (with_tail (tail_of left' name)) (changed change files name)) (sym same);
        };
        logs_are = record { at = λ path. stores_logs.at path ∙ sym (logs_stopped left' (change_of call) logs path) };
      };
    } in
    subst (λ (a : Act). IsLeft files logs act a stored kept) (sym back_is) left_of
