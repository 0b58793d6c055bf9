-- What own reads show of files that are read from the last one back.
use Rattle.std.proofs.Common.{◌≡◌, ◌<◌, ◌≤◌, ◌+◌, ℕ, Bool, true, false, true≢false, List, [], ◌∷◌, ◌++◌, length, drop, get_or, Option, Ok, Err, refl, sym, ◌∙◌, ap, subst, arith}
use Rattle.std.proofs.lemmas.List.{drop_more, drop_all}
use Rattle.chk_site.specs.History.{History}
use Rattle.chk_site.specs.Site.{Adds}
use Rattle.chk_site.proofs.Runs.{adds_as, adds_then, adds_none}
use Rattle.chk_chunk.specs.Keys.{chunk_limit}
use Rattle.chk_world.specs.Books.{End}
use Rattle.chk_world.proofs.Each.{Each}
use Rattle.chk_world.proofs.BooksTrue.{each_append}
use Rattle.chk_record_index.specs.Heads.{Head}
use Rattle.chk_record_index.specs.ShownHeads.{ShowsHeads, ShowAll}
use Rattle.chk_record_index.specs.declared.fault.JobFault.{JobFault}
use Rattle.chk_record_index.proofs.Showing.{within_late}
use Rattle.chk_record_index.proofs.Stretches.{all_early}
use Rattle.chk_record_reader.proofs.Records.{heads_have_bytes}
use Rattle.chk_demux_scan.proofs.Streams.{HasBytes}
use Rattle.chk_demux_scan.specs.Backward.{AreBegins}
use Rattle.chk_demux_scan.specs.Forward.{is_past, past_of}
use Rattle.chk_demux_scan.specs.Newest.{ShowsFrom, ShowsBack, ShowsTook, SameTies}
use Rattle.chk_demux_scan.proofs.Turned.{in_one_order, ties_step}

-- heads that own reads show have bytes
file_bytes : (number : ℕ) (name : List ℕ) (own : List Head) (added history : History)
    → ShowsHeads chunk_limit number name own added history
    → Each HasBytes own
file_bytes number name own added history shows =
    let s = shows.holds in
    subst (Each HasBytes) (sym (s.each s.some s.small s.agree).1)
    (heads_have_bytes chunk_limit number s.some)

all_bytes : (number : ℕ) (names : List (List ℕ)) (heads : List Head) (added history : History)
    → ShowAll chunk_limit number names heads added history → Each HasBytes heads
all_bytes number [] heads added history none = subst (Each HasBytes) (sym none) tt
all_bytes number (name ∷ names) heads added history (own, rest, are, one, all) =
    subst (Each HasBytes) (sym are)
    (each_append HasBytes own rest (file_bytes number name own added history one)
    (all_bytes (number + 1) names rest added history all))

module _ (es : List End) (places : List ℕ) (names : List (List ℕ)) where
  pub show_first : (i : ℕ) (begins : List ℕ) (now : Option History) → i ≡ length names
      → AreBegins es [] begins
      → Adds now now (ShowsFrom es places names i [] begins)
  show_first i begins now is are = adds_none now (ShowsFrom es places names i [] begins)
      (λ history. record {
        found = [];
        show = subst (λ ns. ShowAll chunk_limit i ns [] [] history)
            (sym (drop_all i names (omega (arith, is)))) refl;
        course = are;
        order = λ z. refl;
      })

  show_more : (m i : ℕ) (w : List ℕ) (heads more : List Head) (begins after : List ℕ)
      {old mid new : Option History} → i ≡ m + 1
      → m < length names → get_or names m w ≡ w
      → Adds old mid (ShowsFrom es places names i heads begins)
      → Adds mid new (ShowsTook es places w m heads more begins after (Ok true))
      → Adds old new (ShowsFrom es places names m more after)
  show_more m i w heads more begins after next within is so_far told =
      adds_then (ShowsFrom es places names m more after) so_far told
      (λ a b history x (own, are, leads, shows).
      let led = leads x.found x.course in
      let late : ShowsHeads chunk_limit m w own (b ++ a) history = within_late _ b a history shows
      in
      let early = all_early chunk_limit i (drop i names) x.found b a history x.show in
      let rest : ShowAll chunk_limit (m + 1) (drop i names) x.found (b ++ a) history =
      subst (λ n. ShowAll chunk_limit n (drop i names) x.found (b ++ a) history) next early in
      record {
        found = own ++ x.found;
        show = subst (λ ns. ShowAll chunk_limit m ns (own ++ x.found) (b ++ a) history)
            (sym more_names) (own, x.found, refl, late, rest);
        course = led;
        order = subst (λ l. SameTies l (past_of es places (own ++ x.found))) (sym are)
            (ties_step es own x.found led.all
            (each_append HasBytes own x.found (file_bytes m w own (b ++ a) history late)
            (all_bytes i (drop i names) x.found (b ++ a) history early))
            (is_past es places) heads x.order);
      })
    where
      more_names : drop m names ≡ w ∷ drop i names
      more_names = drop_more names m w within ∙
          (ap (λ x. x ∷ drop (m + 1) names) is ∙ ap (λ n. w ∷ drop n names) (sym next))

  pub show_next : (m i : ℕ) (w : List ℕ) (heads more : List Head) (begins after : List ℕ)
      (b : Bool)
      {old mid new : Option History} → b ≡ true → i ≡ m + 1 → m < length names
      → get_or names m w ≡ w
      → Adds old mid (ShowsFrom es places names i heads begins)
      → Adds mid new (ShowsTook es places w m heads more begins after (Ok b))
      → Adds old new (ShowsFrom es places names m more after)
  show_next m i w heads more begins after true is next within at so_far told =
      show_more m i w heads more begins after next within at so_far told
  show_next m i w heads more begins after false wrong next within at so_far told =
      absurd (true≢false (sym wrong))

  pub show_done : (i : ℕ) (heads : List Head) (begins : List ℕ) {old new : Option History}
      → i ≤ length names
      → Adds old new (ShowsFrom es places names i heads begins)
      → Adds old new (ShowsBack es places names heads (Ok true))
  show_done i heads begins low told =
      adds_as (ShowsBack es places names heads (Ok true)) told
      (λ added history x sorted is. record {
        first = i;
        within = low;
        found = x.found;
        show = x.show;
        run = x.course.all;
        order = is ∙ in_one_order heads (past_of es places x.found) x.order;
      })

  pub show_none : {P : History → History → Type 0} (heads : List Head) {old new : Option History}
      → Adds old new P
      → Adds old new (ShowsBack es places names heads (Ok false))
  show_none heads told =
      adds_as (ShowsBack es places names heads (Ok false)) told (λ added history x. tt)

  pub show_end : (i : ℕ) (heads : List Head) (begins : List ℕ) (b : Bool)
      {old new : Option History} → i ≤ length names
      → Adds old new (ShowsFrom es places names i heads begins)
      → Adds old new (ShowsBack es places names heads (Ok b))
  show_end i heads begins true low told = show_done i heads begins low told
  show_end i heads begins false low told = show_none heads told

  pub show_failed : {P : History → History → Type 0} (heads : List Head) (fault : JobFault)
      {old new : Option History} → Adds old new P
      → Adds old new (ShowsBack es places names heads (Err fault))
  show_failed heads fault told = adds_as (ShowsBack es places names heads (Err fault)) told
      (λ added history x. tt)
