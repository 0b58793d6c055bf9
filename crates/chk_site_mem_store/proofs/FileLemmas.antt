-- Lists of stored files.
use Rattle.std.proofs.Common.{◌≡◌, ℕ, true, not, List, [], ◌∷◌, ◌++◌, Option, Some, None, refl, ◌∙◌, ap, ap₂}
use Rattle.std.specs.Prelude.{bytes_eq, position, filter, is_some}
use Rattle.chk_site.specs.Files.{File, Created, Gone, changed, made}
use Rattle.chk_site_mem_store.specs.declared.named.Named.{Named}
use Rattle.chk_site_mem_store.specs.declared.files.MemFile.{MemFile}
use Rattle.chk_site_mem_store.specs.Named.{is_named}
use Rattle.chk_site_mem_store.specs.Stored.{file_of, file_in, Stores, empty_file}
use Rattle.chk_site_mem_store.proofs.NamedLemmas.{same_bytes, at_name, pushed, without, left_alone, is_there, some_place}

pub created : (name : List ℕ) (files : List (Named MemFile)) (entry : Named MemFile) → entry.name ≡ name
    → file_of entry.value ≡ empty_file → file_in files name ≡ None
    → Stores (files ++ entry ∷ []) (changed (Created name) (file_in files))
created name files entry is empty none =
    record {
      at = λ n.
          pushed file_of files entry n (rw is none)
          ∙ rw (is, empty)
          (at_name (bytes_eq n name) (Some empty_file) (made (file_in files n)) (file_in files n)
          (λ t. rw (same_bytes n name t, none) refl));
    }

pub removed : (name : List ℕ) (files left : List (Named MemFile)) → left ≡ filter (λ e. not (is_named name e)) files
    → Stores left (changed (Gone name) (file_in files))
removed name files left e = record { at = λ n. ap (λ fs. file_in fs n) e ∙ without file_of name files n }

-- two files with the same bytes of which as many are synced
pub file_is : (a b : File) → a.bytes ≡ b.bytes → a.synced ≡ b.synced → a ≡ b
file_is a b bytes synced = ap₂ (λ x y. record { bytes = x; synced = y }) bytes synced

-- what is made of a file that is there
pub some_is : (a b : File) → a.bytes ≡ b.bytes → a.synced ≡ b.synced → Some a ≡ Some b
some_is a b bytes synced = ap (λ (f : File). Some f) (file_is a b bytes synced)

made_some : (o : Option File) → is_some o ≡ true → made o ≡ o
made_some None e = absurd (cc)
made_some (Some file) e = refl

-- a file that is there isn't made anew
pub remade : (name : List ℕ) (files : List (Named MemFile)) (p : Option ℕ) → is_some p ≡ true → position (is_named name) files ≡ p
    → Stores files (changed (Created name) (file_in files))
remade name files p some at =
    let there = some_place p some in
    record {
      at = left_alone file_of name files made (made_some (file_in files name) (is_there file_of name files there.0 (at ∙ there.1)));
    }
