-- Doors by their names and by their takings.
use Rattle.std.proofs.Common.{◌≡◌, ◌<◌, ◌≤◌, ℕ, zero, suc, Bool, true, List, [], ◌∷◌, ◌++◌, length, Option, Some, None, Result, Ok, Err, inr, refl, subst, sym, ◌∙◌, ap, append-nil, take, get_or, arith}
use Rattle.std.specs.Prelude.{bytes_eq, is_some, nat_eq, option_map, position, slice_get, slice_set, IfOk, IfErr, IfNone, IfSome, IsErr, OnErr, OnOk}
use Rattle.std.specs.Io.KnownBytes.{Appends}
use Rattle.std.proofs.lemmas.List.Quantifiers.{position-Some}
use Rattle.std.proofs.lemmas.Bool.{false≢true}
use Rattle.std.proofs.lemmas.Bool.Decides.{nat_tests}
use Rattle.std.proofs.lemmas.Option.{get_or_from_slice_get, slice_get_read}
use Rattle.std.proofs.lemmas.Slice.Eq.{bytes_eq-Decides}
use Rattle.chk_site_sockets.specs.Doors.{is_taking, Answers, GoesOn, IsAtDoor, IsOpen, StandsAt, Takes, TakesDatagram}
use Rattle.chk_site_sockets.specs.Streams.{IsPut}

none_some : {X : Type 0} (i : X) → None ≡ Some i → ⊥
none_some i e = cc

-- a place that was found is one of the list
pub within :
    {X : Type 0} (p : X → Bool) (xs : List X) (i : ℕ) → position p xs ≡ Some i → i < length xs
within p [] i e = absurd (none_some i e)
within p (x ∷ xs) i e = (position-Some p (x ∷ xs) i x e).0

-- at a place of the list something stands
slice_there :
    {X : Type 0} (xs : List X) (i : ℕ) → i < length xs → (x : X) × (slice_get xs i ≡ Some x)
slice_there [] i h = absurd (omega (arith, h))
slice_there (x ∷ xs) zero h = (x, refl)
slice_there (x ∷ xs) (suc i) h = slice_there xs i (omega (arith, h))

-- what stands there is what was looked for
pub named_there :
    {X : Type 0} (name_of : X → List ℕ) (name : List ℕ) (xs : List X) (i : ℕ)
    → position (λ x. bytes_eq (name_of x) name) xs ≡ Some i → StandsAt xs name_of name i
named_there name_of name xs i e =
    let (x, there) = slice_there xs i (within _ xs i e) in
    let found = (position-Some (λ x. bytes_eq (name_of x) name) xs i x e).1 in
    record {
      door = x;
      there = there;
      named =
          (bytes_eq-Decides (name_of x) name).0
          (ap (λ y. bytes_eq (name_of y) name) (sym (get_or_from_slice_get xs i x x there))
          ∙ found);
    }

-- what was added stands last
last_there : {X : Type 0} (xs : List X) (x : X) → slice_get (xs ++ x ∷ []) (length xs) ≡ Some x
last_there [] x = refl
last_there (y ∷ xs) x = last_there xs x

-- a door that was kept comes last, and stands there under its name
pub kept_open :
    {T E X : Type 0} (r : Result T E) (old mid new : List X) (name_of : X → List ℕ) (name : List ℕ)
    (door : X) → position (λ d. bytes_eq (name_of d) name) old ≡ None → mid ≡ old
    → name_of door ≡ name → OnOk r (new ≡ mid ++ door ∷ []) → OnOk r (IsOpen old new name_of name)
kept_open (Ok value) old mid new name_of name door free same named put =
    inr (
      ap is_some free,
      record { door = door; named = named; last = put ∙ ap (λ l. l ++ door ∷ []) same },
    )
kept_open (Err error) old mid new name_of name door free same named put = put

pub kept_stands :
    {E X : Type 0} (r : Result ℕ E) (mid new : List X) (name_of : X → List ℕ) (name : List ℕ)
    (door : X) → name_of door ≡ name → OnOk r (new ≡ mid ++ door ∷ [])
    → IfOk r (λ place. place ≡ length mid) → IfOk r (StandsAt new name_of name)
kept_stands (Ok place) mid new name_of name door named put last =
    record {
      door = door;
      there =
          ap (slice_get new) last ∙ ap (λ l. slice_get l (length mid)) put ∙ last_there mid door;
      named = named;
    }
kept_stands (Err error) mid new name_of name door named put last = last

-- what stands at a place is one thing
abbrev value_or : {X : Type 0} → X → Option X → X
value_or x None = x
value_or x (Some y) = y

one_there :
    {X : Type 0} (xs : List X) (i : ℕ) (x y : X) → slice_get xs i ≡ Some x → slice_get xs i ≡ Some y
    → x ≡ y
one_there xs i x y first second = ap (value_or x) (sym first ∙ second)

-- at a place of the list stands what was read there
pub read_there :
    {X : Type 0} (xs : List X) (i : ℕ) (x : X) → i < length xs → x ≡ get_or xs i x
    → slice_get xs i ≡ Some x
read_there xs i x inside e = slice_get_read xs (length xs) i x refl inside e

-- the door that stands there has this taking; `number_of` is of what is taken there
at_door :
    {X N : Type 0} (old opened new : List X) (name_of : X → List ℕ) (taking_of : X → Option ℕ)
    (name : List ℕ) (place : ℕ) (before after : X) (number_of : N → ℕ) (taken : Option N)
    (taking : Option ℕ)
    → IsOpen old opened name_of name → StandsAt opened name_of name place
    → slice_get opened place ≡ Some before → name_of after ≡ name_of before
    → new ≡ slice_set opened place after → taking_of after ≡ option_map number_of taken
    → option_map number_of taken ≡ taking → IsAtDoor old new name_of taking_of name taking
at_door old opened new name_of taking_of name place before after number_of taken taking
    opening s there named left is e =
    record {
      opened = opened;
      place = place;
      before = before;
      after = after;
      opening = opening;
      there = there;
      of_name = ap name_of (one_there opened place before s.door there s.there) ∙ s.named;
      left = left;
      so = record { named = named; goes_on = is ∙ e };
    }

-- what a taking at the door that stands there leaves
pub taken_at :
    {X N M F : Type 0} (old opened new : List X) (name_of : X → List ℕ) (taking_of : X → Option ℕ)
    (name : List ℕ) (number place : ℕ) (before after : X) (number_of : N → ℕ) (taken : Option N)
    (r : Result (Option M) F)
    → IsOpen old opened name_of name → StandsAt opened name_of name place
    → slice_get opened place ≡ Some before → name_of after ≡ name_of before
    → new ≡ slice_set opened place after → taking_of after ≡ option_map number_of taken
    → IfOk r (λ given. IfSome given (λ _. option_map number_of taken ≡ Some number))
    → IfOk r (λ given. IfNone given (taken ≡ None)) → IfErr r (λ _. taken ≡ None)
    → Takes old new name_of taking_of name number r
taken_at old opened new name_of taking_of name number place before after number_of taken
    (Ok (Some bytes)) opening s there named left is some none err =
    at_door old opened new name_of taking_of name place before after number_of taken (Some number)
    opening s there named left is some
taken_at old opened new name_of taking_of name number place before after number_of taken
    (Ok None) opening s there named left is some none err =
    at_door old opened new name_of taking_of name place before after number_of taken None
    opening s there named left is (ap (option_map number_of) none)
taken_at old opened new name_of taking_of name number place before after number_of taken
    (Err fault) opening s there named left is some none err =
    inr (at_door old opened new name_of taking_of name place before after number_of taken None
    opening s there named left is (ap (option_map number_of) err))

-- the same of what was made of the answer
takes_mapped :
    {X M U : Type 0} (E F : Type 0) (old new : List X) (name_of : X → List ℕ)
    (taking_of : X → Option ℕ) (name : List ℕ) (number : ℕ) (f : M → U) (given : Option M)
    → Takes {T = M} {F = E} old new name_of taking_of name number (Ok given)
    → Takes {T = U} {F = F} old new name_of taking_of name number (Ok (option_map f given))
takes_mapped E F old new name_of taking_of name number f (Some given) taken = taken
takes_mapped E F old new name_of taking_of name number f None taken = taken

pub takes_as :
    {X M U : Type 0} (E F : Type 0) (old mid new : List X) (name_of : X → List ℕ)
    (taking_of : X → Option ℕ) (name : List ℕ) (number next : ℕ) (f : M → U) (given : Option M)
    (told : Option U)
    → Takes {T = M} {F = E} old mid name_of taking_of name number (Ok given) → new ≡ mid
    → next ≡ number → told ≡ option_map f given
    → Takes {T = U} {F = F} old new name_of taking_of name next (Ok told)
takes_as E F old mid new name_of taking_of name number next f given told taken same is gave =
    subst (λ l. Takes {F = F} old l name_of taking_of name next (Ok told)) (sym same)
    (subst (λ n. Takes {F = F} old mid name_of taking_of name n (Ok told)) (sym is)
    (subst (λ o. Takes {F = F} old mid name_of taking_of name number (Ok o)) (sym gave)
    (takes_mapped E F old mid name_of taking_of name number f given taken)))

pub open_as :
    {X : Type 0} (old mid new : List X) (name_of : X → List ℕ) (name : List ℕ)
    → IsOpen old mid name_of name → new ≡ mid → IsOpen old new name_of name
open_as old mid new name_of name opening same =
    subst (λ l. IsOpen old l name_of name) (sym same) opening

-- behind a taking of a datagram its door is open
pub datagram_taken :
    {X T F : Type 0} (old new : List X) (name_of : X → List ℕ) (name : List ℕ) (r : Result T F)
    → IsOpen old new name_of name → TakesDatagram old new name_of name r
datagram_taken old new name_of name (Ok given) opening = opening
datagram_taken old new name_of name (Err fault) opening = inr opening

-- the taking that goes on at the door that was found is the one that was looked for
nat_eq_is : (a b : ℕ) → nat_eq a b ≡ true → a ≡ b
nat_eq_is a b e = grind (arith, nat_tests)

of_taking : (taking : ℕ) (o : Option ℕ) → is_taking taking o ≡ true → o ≡ Some taking
of_taking taking None e = absurd (false≢true e)
of_taking taking (Some number) e = ap Some (nat_eq_is number taking e)

found_taking :
    {X : Type 0} (taking_of : X → Option ℕ) (taking : ℕ) (xs : List X) (i : ℕ) (x : X)
    → position (λ d. is_taking taking (taking_of d)) xs ≡ Some i → slice_get xs i ≡ Some x
    → taking_of x ≡ Some taking
found_taking taking_of taking xs i x e there =
    let found = (position-Some (λ d. is_taking taking (taking_of d)) xs i x e).1 in
    of_taking taking (taking_of x)
    (ap (λ y. is_taking taking (taking_of y)) (sym (get_or_from_slice_get xs i x x there)) ∙ found)

-- what a further piece leaves
pub goes_on :
    {X N F : Type 0} (old new : List X) (name_of : X → List ℕ) (taking_of : X → Option ℕ)
    (Gave : X → X → List ℕ → Type 0) (taking place : ℕ) (before after : X) (number_of : N → ℕ)
    (taken : Option N) (r : Result (List ℕ) F)
    → position (λ d. is_taking taking (taking_of d)) old ≡ Some place
    → slice_get old place ≡ Some before → name_of after ≡ name_of before
    → new ≡ slice_set old place after → taking_of after ≡ option_map number_of taken
    → OnOk r (option_map number_of taken ≡ taking_of before) → IfOk r (Gave before after)
    → OnErr r (taken ≡ None) → GoesOn old new name_of taking_of Gave taking r
goes_on old new name_of taking_of Gave taking place before after number_of taken (Ok bytes)
    first there named left is same gave ended =
    inr (record {
      place = place;
      before = before;
      after = after;
      first = first;
      there = there;
      left = left;
      so = (
        record {
          named = named;
          goes_on = is ∙ same ∙ found_taking taking_of taking old place before first there;
        },
        gave,
      );
    })
goes_on old new name_of taking_of Gave taking place before after number_of taken (Err fault)
    first there named left is same gave ended =
    record {
      place = place;
      before = before;
      after = after;
      first = first;
      there = there;
      left = left;
      so = record { named = named; goes_on = is ∙ ap (option_map number_of) ended };
    }

-- what an answer leaves
pub answered :
    {X N T F : Type 0} (old new : List X) (name_of : X → List ℕ) (taking_of : X → Option ℕ)
    (taking place : ℕ) (before after : X) (number_of : N → ℕ) (taken : Option N) (Put : X → Type 0)
    (r : Result T F)
    → position (λ d. is_taking taking (taking_of d)) old ≡ Some place
    → slice_get old place ≡ Some before → name_of after ≡ name_of before
    → new ≡ slice_set old place after → taking_of after ≡ option_map number_of taken
    → taken ≡ None → Put before → Answers old new name_of taking_of taking Put r
answered old new name_of taking_of taking place before after number_of taken Put r
    first there named left is ended put =
    inr (record {
      place = place;
      before = before;
      after = after;
      first = first;
      there = there;
      left = left;
      so = (record { named = named; goes_on = is ∙ ap (option_map number_of) ended }, put);
    })

-- where it failed, a front of the answer was put on the stream of what was taken
pub front_put :
    {N S T E : Type 0} (taken : Option N) (n : N) (stream_of : N → S)
    (contents : S → Option (List ℕ)) (bytes : List ℕ) (after : S) (r : Result T E)
    → taken ≡ Some n
    → (count : ℕ) × (count ≤ length bytes)
    × Appends (contents (stream_of n)) (contents after) (take count bytes)
    → IsErr r
    → IfSome taken (λ n. (after : S) × IsPut (contents (stream_of n)) (contents after) bytes r)
front_put None n stream_of contents bytes after r e put err = tt
front_put (Some m) n stream_of contents bytes after (Ok value) e put err =
    absurd (false≢true err)
front_put (Some m) n stream_of contents bytes after (Err fault) e put err = (
  after,
  subst (λ m. (count : ℕ) × (count ≤ length bytes)
      × Appends (contents (stream_of m)) (contents after) (take count bytes))
      (sym (ap (value_or m) e)) put,
)

pub none_put :
    (before : Option (List ℕ)) (bytes : List ℕ)
    → (count : ℕ) × (count ≤ length bytes) × Appends before before (take count bytes)
none_put None bytes = (0, omega arith, tt)
none_put (Some put) [] = (0, omega arith, sym (append-nil put))
none_put (Some put) (b ∷ bytes) = (0, omega arith, sym (append-nil put))
