use Rattle.std.proofs.Common.{◌∙◌, ap, length, map}
use Rattle.std.proofs.lemmas.List.{with_items_is, length-map}
use Rattle.chk_site.specs.Files.{changed, Change}
use Rattle.chk_site.specs.Acts.{deed, change_of}
use Rattle.chk_site_mem_store.specs.Told.{stopped_change}
use Rattle.chk_site_mem_store.specs.Stored.{file_in, Stores, middle_files, tailed}
use Rattle.chk_site_mem_store.proofs.StopLemmas.{tails_stored, fitted_same}
use Rattle.chk_site_mem_store.proofs.stops.stop.Goals as goal

pub returns-clause-left : goal.returns-clause-left
returns-clause-left c =
    let call = deed c.args.act.now in
    let left = c.args.left.now in
    let made = c.stopped.ensures ∙ ap (stopped_change left) c.whole.ensures in
    c.in_ok-left.ensures
    ∙ fitted_same call _ (middle_files call left (file_in c.args.files.now)) left
    (λ name. ap (λ fs. file_in fs name) c.deref.ensures.value ∙ c.in_ok-change_files.ensures.ok.at name
    ∙ ap (λ (ch : Change). changed ch (file_in c.in_ok-after.after.items) name) made
    ∙ ap (λ fs. changed (stopped_change left (change_of call)) (file_in fs) name) c.in_ok-after.ensures)

pub returns-clause-files : goal.returns-clause-files
returns-clause-files c =
    let call = deed c.args.act.now in
    let left = c.args.left.now in
    let files = c.change_files.new.files in
    let made = c.stopped.ensures ∙ ap (stopped_change left) c.whole.ensures in
    let middle : Stores files.items (middle_files call left (file_in c.args.files.now)) = record {
      at = λ name.
          c.in_ok-change_files.ensures.ok.at name
          ∙ ap (λ (ch : Change). changed ch (file_in c.in_ok-after.after.items) name) made
          ∙ ap (λ fs. changed (stopped_change left (change_of call)) (file_in fs) name) c.in_ok-after.ensures;
    } in
    let fits = ap length c.in_ok-leave_tails.ensures ∙ length-map _ (tailed c.as_slice.result.now) ∙ c.deref_mut.ensures.len in
    let is = with_items_is files c.leave_tails.new.files fits ∙ c.in_ok-leave_tails.ensures
    ∙ ap (λ l. map (tailed l) c.deref_mut.result.now) c.as_slice.ensures
    ∙ ap (map (tailed c.in_ok-left.left)) c.deref_mut.ensures.value in
    tails_stored c.in_ok-left.left files.items _ (middle_files call left (file_in c.args.files.now)) middle is
