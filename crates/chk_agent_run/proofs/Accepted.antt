-- The stream of an accepted `add` is read; a refused one changes nothing.
use Rattle.std.proofs.Common.{◌≡◌, ℕ, suc, ◌+◌, ◌<◌, Bool, true, false, ◌&&◌, ◌||◌, List, [], ◌∷◌, ◌++◌, length, bytes_eq, Option, Some, None, Result, Ok, Err, ap, sym, subst, ◌∙◌, refl, arith, true≢false, if◌then◌else◌}
use Rattle.std.specs.Prelude.{slice_set}
use Rattle.std.specs.List.{list_any}
use Rattle.std.proofs.lemmas.Bool.{or_right}
use Rattle.std.proofs.lemmas.List.{length-set, get_or-set_same}
use Rattle.std.proofs.lemmas.List.Folds.{list_any-append, list_any_at}
use Rattle.std.proofs.lemmas.Option.{same_Some, none-some}
use Rattle.chk_control.specs.declared.Class.{Class}
use Rattle.chk_control.specs.declared.commands.Command.TheVariants.{Blank, Add, Close, Help, List as ListAll, ReloadCollectors, Stop, StopAll, Shutdown, StopAgent}
use Rattle.chk_control.specs.declared.answers.Answer.TheVariants.{Bad}
use Rattle.chk_control.specs.Answers.{answer_text}
use Rattle.chk_control.specs.Lines.{Meaning, meaning_of}
use Rattle.chk_site.specs.History.{History}
use Rattle.chk_world.proofs.Ends.{bytes_self}
use Rattle.chk_agent_adaptor.specs.Adaptors.{Adaptor, adaptor_of, is_past, revived}
use Rattle.chk_agent.specs.declared.answers.Reply.{Reply}
use Rattle.chk_agent.specs.declared.answers.Then.TheVariants.{Go}
use Rattle.chk_agent.specs.Replies.{reply_of}
use Rattle.chk_agent.specs.States.{State}
use Rattle.chk_agent.specs.Adds.{Found, stream_in, with_added, new_line, written}
use Rattle.chk_agent.specs.Commands.{Effect, plain_effect, IsCommand, plainly, refused_add, added}
use Rattle.chk_agent_run.specs.Initial.{reads, is_live_in, is_met, is_add}

module _ (kind path : List ℕ) where
  abbrev is_of : Adaptor → Bool
  is_of a = bytes_eq a.kind kind && bytes_eq a.path path

  -- the adaptor that was found
  record IsThere (i : ℕ) (xs : List Adaptor) (f : Found) : Type 0 where
    place : ℕ
    number : f.number ≡ i + place
    below : place < length xs
    is : is_of f.adaptor ≡ true

  there : (i : ℕ) (xs : List Adaptor) (f : Found) → stream_in kind path i xs ≡ Some f → IsThere i xs f
  there i [] f e = absurd (none-some f e)
  there i (a ∷ xs) f e = go (is_of a) refl e (there (i + 1) xs f)
    where
      go : (b : Bool) → is_of a ≡ b → (if b then Some (record { number = i; adaptor = a }) else stream_in kind path (i + 1) xs) ≡ Some f
          → (stream_in kind path (i + 1) xs ≡ Some f → IsThere (i + 1) xs f) → IsThere i (a ∷ xs) f
      go true is e rest =
          let same : record { number = i; adaptor = a } ≡ f = same_Some (record { number = i; adaptor = a }) f e in
          let number = ap (λ (k : Found). k.number) same in
          record {
            place = 0;
            number = omega (arith, number);
            below = omega arith;
            is = ap (λ (k : Found). is_of k.adaptor) (sym same) ∙ is;
          }
      go false is e rest =
          let r = rest e in
          let number = r.number in
          let below = r.below in
          record { place = suc r.place; number = omega (arith, number); below = omega (arith, below); is = r.is }

  revived_reads : (name : List ℕ) (xs : List Adaptor) (f : Found) → stream_in kind path 0 xs ≡ Some f
      → list_any (reads kind path) (slice_set xs f.number (revived name f.adaptor)) ≡ true
  revived_reads name xs f is =
      let t = there 0 xs f is in
      let b = revived name f.adaptor in
      let number = t.number in
      let below = t.below in
      let here : f.number < length xs = omega (arith, number, below) in
      let size = length-set xs f.number b in
      list_any_at (reads kind path) (slice_set xs f.number b) f.number b (omega (arith, here, size))
      (ap (reads kind path) (get_or-set_same xs f.number b b here) ∙ t.is)

  new_reads : (name : List ℕ) (class : Class) (start : ℕ) (after : Option (List ℕ)) (xs : List Adaptor)
      → list_any (reads kind path) (xs ++ adaptor_of (new_line name class kind path start after) ∷ []) ≡ true
  new_reads name class start after xs =
      list_any-append (reads kind path) xs (adaptor_of (new_line name class kind path start after) ∷ [])
      ∙ rw (bytes_self kind, bytes_self path) (or_right (list_any (reads kind path) xs) true refl)

  with_reads : (s : State) (o : Option Found) → stream_in kind path 0 s.adaptors ≡ o
      → (name : List ℕ) (class : Class) (start : ℕ) (after : Option (List ℕ))
      → is_live_in kind path (with_added s o (new_line name class kind path start after)).adaptors ≡ true
  with_reads s None is name class start after = new_reads name class start after s.adaptors
  with_reads s (Some f) is name class start after = revived_reads name s.adaptors f is

-- what an `add` that was run tells
pub data AddTells (line : List ℕ) (s : State) : Reply → State → Option History → Option History → Type 0 where
  reads_it : {reply : Reply} {t : State} {old new : Option History} → is_met t (meaning_of line) ≡ true → AddTells line s reply t old new
  refuses : {now : Option History} (n : ℕ) → AddTells line s (reply_of (answer_text (Bad n)) Go) s now now

-- an `add` isn't run as a plain line
adds_plainly : (m : Meaning) → is_add m ≡ true → (s : State) (e : Effect) → plain_effect m s ≡ Some e → ⊥
adds_plainly (Ok (Add name class kind path offset)) adds s e is = none-some e is
adds_plainly (Ok Blank) adds s e is = true≢false (sym adds)
adds_plainly (Ok Close) adds s e is = true≢false (sym adds)
adds_plainly (Ok Help) adds s e is = true≢false (sym adds)
adds_plainly (Ok ListAll) adds s e is = true≢false (sym adds)
adds_plainly (Ok ReloadCollectors) adds s e is = true≢false (sym adds)
adds_plainly (Ok (Stop name)) adds s e is = true≢false (sym adds)
adds_plainly (Ok StopAll) adds s e is = true≢false (sym adds)
adds_plainly (Ok (Shutdown name)) adds s e is = true≢false (sym adds)
adds_plainly (Ok StopAgent) adds s e is = true≢false (sym adds)
adds_plainly (Err fault) adds s e is = true≢false (sym adds)

pub add_tells : {line : List ℕ} {s t : State} {reply : Reply} {old new : Option History} → is_add (meaning_of line) ≡ true
    → IsCommand line s (Ok reply) t old new → AddTells line s reply t old new
add_tells {line = line} {s = s} adds (plainly e is) = absurd (adds_plainly (meaning_of line) adds s e is)
add_tells adds (refused_add given class kind path name offset n means names says) = refuses n
add_tells {line = line} {s = s} adds (added given class kind path name offset means names none (written {t = t} after newest is writes)) =
    reads_it (ap (is_met t) means
    ∙ (ap (λ (k : State). is_live_in kind path k.adaptors) is ∙ with_reads kind path s _ refl name class offset after))
