use Rattle.std.proofs.Common.{Ok, Err, subst}
use Rattle.std.specs.Prelude.{codes, IfOk, IfErr}
use Rattle.chk_archive.specs.Calling.{Listed}
use Rattle.chk_archive.proofs.SinksShown.{shown_ok, shown_err, shown_works}
use Rattle.chk_archive.proofs.Lasts.{listed_last}
use Rattle.chk_archive.proofs.OnceListed.{once_given, once_listed}
use Rattle.chk_archive.proofs.sinks.list_sinks.Goals as goal

pub returns-clause-listed : goal.returns-clause-listed
returns-clause-listed g c stamped own =
    let old = g.S.Site.told c.args.site.now in
    let new = g.S.Site.told c.list_folder.new.site in
    shown_ok (λ v. v.items) old new stamped own c.list_folder.result
    (subst (λ who. IfOk c.list_folder.result
    (λ v. Listed who (codes "sinks") (Ok v.items) old new)) c.requires c.list_folder.ensures.ok)

pub returns-clause-refused : goal.returns-clause-refused
returns-clause-refused g c stamped own =
    let old = g.S.Site.told c.args.site.now in
    let new = g.S.Site.told c.list_folder.new.site in
    shown_err (λ v. v.items) old new stamped own c.list_folder.result
    (subst (λ who. IfErr c.list_folder.result
    (λ fault. Listed who (codes "sinks")
    (Err fault) old new)) c.requires c.list_folder.ensures.err)

pub returns-clause-own : goal.returns-clause-own
returns-clause-own g c =
    let old = g.S.Site.told c.args.site.now in
    let new = g.S.Site.told c.list_folder.new.site in
    shown_works (λ v. v.items) old new c.list_folder.result
    (subst (λ who. IfOk c.list_folder.result
    (λ v. Listed who (codes "sinks") (Ok v.items) old new)) c.requires c.list_folder.ensures.ok)
    (subst (λ who. IfErr c.list_folder.result
    (λ fault. Listed who (codes "sinks")
    (Err fault) old new)) c.requires c.list_folder.ensures.err)

pub returns-clause-last : goal.returns-clause-last
returns-clause-last g c =
    let old = g.S.Site.told c.args.site.now in
    let new = g.S.Site.told c.list_folder.new.site in
    listed_last (λ v. v.items) (codes "sinks") c.list_folder.result
    (subst (λ who. IfOk c.list_folder.result
    (λ v. Listed who (codes "sinks") (Ok v.items) old new)) c.requires c.list_folder.ensures.ok)
    (subst (λ who. IfErr c.list_folder.result
    (λ fault. Listed who (codes "sinks")
    (Err fault) old new)) c.requires c.list_folder.ensures.err)

pub returns-clause-once : goal.returns-clause-once
returns-clause-once g c =
    let old = g.S.Site.told c.args.site.now in
    let new = g.S.Site.told c.list_folder.new.site in
    once_listed (λ v. v.items) c.list_folder.result
    (subst (λ who. IfOk c.list_folder.result
    (λ v. Listed who (codes "sinks") (Ok v.items) old new)) c.requires c.list_folder.ensures.ok)
    (subst (λ who. IfErr c.list_folder.result
    (λ fault. Listed who (codes "sinks")
    (Err fault) old new)) c.requires c.list_folder.ensures.err)

pub returns-clause-given : goal.returns-clause-given
returns-clause-given g c =
    let old = g.S.Site.told c.args.site.now in
    let new = g.S.Site.told c.list_folder.new.site in
    once_given (λ v. v.items) c.list_folder.result old new
    (subst (λ who. IfOk c.list_folder.result
    (λ v. Listed who (codes "sinks") (Ok v.items) old new)) c.requires c.list_folder.ensures.ok)

pub returns-clause-names : goal.returns-clause-names
returns-clause-names g c =
    let old = g.S.Site.told c.args.site.now in
    let new = g.S.Site.told c.list_folder.new.site in
    subst (λ who. IfOk c.list_folder.result
    (λ v. Listed who (codes "sinks") (Ok v.items) old new)) c.requires c.list_folder.ensures.ok
