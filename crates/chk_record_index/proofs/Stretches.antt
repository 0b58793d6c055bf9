-- What own reads show of one file and of several, over more and more steps.
use Rattle.std.proofs.Common.{◌≡◌, ℕ, ◌+◌, ◌<◌, List, [], ◌∷◌, ◌++◌, length, take, drop, get_or, Option, Ok, Err, refl, sym, ◌∙◌, ap, subst, append_assoc, append-nil, arith}
use Rattle.std.specs.Prelude.{Contains}
use Rattle.std.proofs.lemmas.List.{take_more, length-take-le}
use Rattle.std.proofs.Math.Seq.{drop-append_seam}
use Rattle.chk_site.specs.History.{History}
use Rattle.chk_site.specs.Site.{Adds}
use Rattle.chk_site.proofs.Runs.{adds_then, adds_as, adds_none}
use Rattle.chk_record_index.specs.declared.fault.JobFault.{JobFault}
use Rattle.chk_record_index.specs.declared.fault.JobFault.TheVariants.{Outside, Damaged, Spent, NoMemory}
use Rattle.chk_record_index.specs.Heads.{Head, heads_in}
use Rattle.chk_record_index.specs.Shown.{Shown}
use Rattle.chk_record_index.specs.Gathered.{HasHeads, ShowsGathered}
use Rattle.chk_record_index.specs.ShownHeads.{HasJust, ShowsHeads, ShowAll, ShowsBad, ShowsAllGathered}
use Rattle.chk_record_index.proofs.Showing.{within_all, within_late, within_early}

-- what is so because of that
pub shown_as : {P Q : List ℕ → Type 0} {name : List ℕ} {added history : History} → ((bytes : List ℕ) → P bytes → Q bytes)
    → Shown name P added history → Shown name Q added history
shown_as so s = record { some = s.some; small = s.small; agree = s.agree; each = λ bytes low all. so bytes (s.each bytes low all) }

-- what stands behind the same is the same
same_behind : (xs ys zs : List Head) → xs ++ ys ≡ xs ++ zs → ys ≡ zs
same_behind xs ys zs same = sym (drop-append_seam xs ys) ∙ (ap (drop (length xs)) same ∙ drop-append_seam xs zs)

-- the heads that stand behind others are the file's own
pub own_heads : (most number : ℕ) (name : List ℕ) (old new : List Head) (added history : History)
    → Shown name (HasHeads most number old new) added history
    → (own : List Head) × (new ≡ old ++ own) × ShowsHeads most number name own added history
own_heads most number name old new added history s =
    let own : List Head = heads_in most number s.some in
    let is : new ≡ old ++ own = (s.each s.some s.small s.agree).1 in (
      own,
      is,
      within_all (Shown name (HasJust most number own)) added history
          (shown_as (λ bytes h. (h.0, same_behind old own (heads_in most number bytes) (sym is ∙ h.1))) s),
    )

-- it stays so where more steps are added
pub all_early : (most number : ℕ) (names : List (List ℕ)) (heads : List Head) (b a history : History) → ShowAll most number names heads a history
    → ShowAll most number names heads (b ++ a) history
all_early most number [] heads b a history all = all
all_early most number (name ∷ names) heads b a history (own, rest, are, one, all) =
    (own, rest, are, within_early _ b a history one, all_early most (number + 1) names rest b a history all)

pub all_late : (most number : ℕ) (names : List (List ℕ)) (heads : List Head) (b a history : History)
    → ShowAll most number names heads b (a ++ history) → ShowAll most number names heads (b ++ a) history
all_late most number [] heads b a history all = all
all_late most number (name ∷ names) heads b a history (own, rest, are, one, all) =
    (own, rest, are, within_late _ b a history one, all_late most (number + 1) names rest b a history all)

-- one file more
all_more : (most number count : ℕ) (names : List (List ℕ)) (name : List ℕ) (heads own : List Head) (added history : History)
    → count ≡ number + length names → ShowAll most number names heads added history → ShowsHeads most count name own added history
    → ShowAll most number (names ++ name ∷ []) (heads ++ own) added history
all_more most number count [] name heads own added history is none one = (
  own,
  [],
  ap (λ hs. hs ++ own) none ∙ sym (append-nil own),
  subst (λ n. ShowsHeads most n name own added history) (let e : count ≡ number = omega arith in e) one,
  refl,
)
all_more most number count (w ∷ names) name heads own added history is (first, rest, are, shows, all) one = (
  first,
  rest ++ own,
  ap (λ hs. hs ++ own) are ∙ append_assoc first rest own,
  shows,
  all_more most (number + 1) count names name rest own added history (omega arith) all one,
)

pub all_begin : (most : ℕ) (now : Option History) → Adds now now (ShowAll most 0 [] [])
all_begin most now = adds_none now (ShowAll most 0 [] []) (λ history. refl)

pub all_go_on : (most number count : ℕ) (names : List (List ℕ)) (name : List ℕ) (heads more : List Head) {old mid new : Option History}
    → number ≡ length names → Adds old mid (ShowAll most 0 names heads)
    → Adds mid new (ShowsGathered {T = ℕ} most name number heads more (Ok count))
    → Adds old new (ShowAll most 0 (names ++ name ∷ []) more)
all_go_on most number count names name heads more is so_far told =
    adds_then (ShowAll most 0 (names ++ name ∷ []) more) so_far told
    (λ a b history x y.
    let o = own_heads most number name heads more b (a ++ history) y in
    subst (λ hs. ShowAll most 0 (names ++ name ∷ []) hs (b ++ a) history) (sym o.1)
    (all_more most 0 number names name heads o.0 (b ++ a) history (let e : number ≡ 0 + length names = omega (arith, is) in e) (all_early most 0 names heads b a history x)
    (within_late _ b a history o.2)))

-- the file at this place among the names
pub all_step : (most number count : ℕ) (names : List (List ℕ)) (i : ℕ) (name : List ℕ) (heads more : List Head) {old mid new : Option History}
    → i < length names → get_or names i name ≡ name → number ≡ i → Adds old mid (ShowAll most 0 (take i names) heads)
    → Adds mid new (ShowsGathered {T = ℕ} most name number heads more (Ok count))
    → Adds old new (ShowAll most 0 (take (i + 1) names) more)
all_step most number count names i name heads more {old = old} {new = new} within is here so_far told =
    subst (λ ns. Adds old new (ShowAll most 0 ns more)) (sym (take_more names i name within ∙ ap (λ x. take i names ++ x ∷ []) is))
    (all_go_on most number count (take i names) name heads more (here ∙ sym (length-take-le i names (omega arith))) so_far told)

pub all_end : (most : ℕ) (names : List (List ℕ)) (heads : List Head) {old new : Option History} → Adds old new (ShowAll most 0 names heads)
    → Adds old new (ShowsAllGathered most names (Ok heads))
all_end most names heads told = adds_as (ShowsAllGathered most names (Ok heads)) told (λ added history x. x)

-- one of the files is refused
pub all_refused : (most number : ℕ) (names : List (List ℕ)) (name : List ℕ) (heads more : List Head) (fault : JobFault) {P : History → History → Type 0}
    {old mid new : Option History} → Contains names name → Adds old mid P
    → Adds mid new (ShowsGathered {T = ℕ} most name number heads more (Err fault)) → Adds old new (ShowsAllGathered most names (Err fault))
all_refused most number names name heads more fault there so_far told =
    adds_then (ShowsAllGathered most names (Err fault)) so_far told (λ a b history x y. said fault a b history y)
  where
    said : (fault : JobFault) (a b history : History) → ShowsGathered {T = ℕ} most name number heads more (Err fault) b (a ++ history)
        → ShowsAllGathered most names (Err fault) (b ++ a) history
    said (Outside call) a b history y = tt
    said (Damaged which at) a b history y = (
      subst (Contains names) (sym y.0) there,
      subst (λ w. ShowsBad most w at (b ++ a) history) (sym y.0) (within_late _ b a history (within_all _ b (a ++ history) y.1)),
    )
    said (Spent number) a b history y = tt
    said NoMemory a b history y = tt

pub all_unshown : {P : History → History → Type 0} (most : ℕ) (names : List (List ℕ)) {old new : Option History} → Adds old new P
    → Adds old new (ShowsAllGathered most names (Err NoMemory))
all_unshown most names told = adds_as (ShowsAllGathered most names (Err NoMemory)) told (λ added history p. tt)
