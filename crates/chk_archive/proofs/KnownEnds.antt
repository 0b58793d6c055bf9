-- Where the archives of a book's streams start and end.
use Rattle.std.proofs.Common.{◌≡◌, ℕ, Bool, true, false, List, [], ◌∷◌, ap, sym, subst, ◌∙◌, refl}
use Rattle.std.specs.Prelude.{map, if◌then◌else◌}
use Rattle.chk_chunk.specs.Keys.{Stream, same_stream}
use Rattle.chk_world.specs.Books.{End}
use Rattle.chk_world.proofs.NameTests.{streams_same}
use Rattle.chk_record_index.specs.Heads.{Head}
use Rattle.chk_book.specs.Books.{end_in}
use Rattle.chk_archive_plan.specs.declared.spans.Known.{Known}
use Rattle.chk_archive_plan.specs.Passes.{begins_at, known_stream}
use Rattle.chk_archive_plan.specs.Starts.{start_known}
use Rattle.chk_archive.specs.Starts.{start_in}
use Rattle.chk_world.proofs.Rounds.{stream_self}

-- an end as it is known
abbrev pub as_end : Known → End
as_end k = record {
  stream = record { source = k.source.now; kind = k.kind.now; name = k.name.now };
  start = k.start;
  end = k.end;
}

turned : (s t : Stream) → same_stream s t ≡ same_stream t s
turned s t = go (same_stream s t) refl (same_stream t s) refl
  where
    of_true : (u v : Stream) → same_stream u v ≡ true → same_stream v u ≡ true
    of_true u v e = subst (λ z. same_stream z u ≡ true) (streams_same u v e) (stream_self u)

    go : (a : Bool) → same_stream s t ≡ a → (b : Bool) → same_stream t s ≡ b → same_stream s t ≡ same_stream t s
    go true e b f = e ∙ sym (of_true s t e)
    go false e true f = of_true t s f ∙ sym f
    go false e false f = e ∙ sym f

pub ends_known : (ks : List Known) (h : Head)
    → begins_at ks h ≡ end_in h.key.start (map as_end ks) h.key.stream
ends_known [] h = refl
ends_known (k ∷ ks) h =
    let s : Stream = (as_end k).stream in
    ap (λ b. if b then k.end else begins_at ks h) (turned s h.key.stream)
    ∙ ap (λ n. if same_stream h.key.stream s then k.end else n) (ends_known ks h)

pub starts_known : (n : ℕ) (ks : List Known) (s : Stream)
    → start_known n ks s ≡ start_in n (map as_end ks) s
starts_known n [] s = refl
starts_known n (k ∷ ks) s =
    ap (λ b. if b then k.start else start_known n ks s) (turned (known_stream k) s)
    ∙ ap (λ m. if same_stream s (known_stream k) then k.start else m) (starts_known n ks s)
