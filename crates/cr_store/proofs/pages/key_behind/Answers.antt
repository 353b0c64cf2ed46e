use Rattle.std.proofs.Common.{sym, subst}
use Rattle.sqlite.specs.Held.{state}
use Rattle.sqlite.specs.Listing.{understood}
use Rattle.sqlite.proofs.Callers.{IsPlain}
use Rattle.cr_store.proofs.PageReads.{select_key, key_plain}
use Rattle.cr_store.proofs.StoreLemmas.{shown_open}
use Rattle.cr_store.proofs.pages.key_behind.Goals as goal

pub returns-in_err-rows-clause-same : goal.returns-in_err-rows-clause-same
returns-in_err-rows-clause-same g c clean has settled it = c.ask.ensures.same clean (subst (λ s. IsPlain (understood s select_key)) (sym has) key_plain) settled it

pub returns-in_err-blob_at-in-Some-clause-same : goal.returns-in_err-blob_at-in-Some-clause-same
returns-in_err-blob_at-in-Some-clause-same g c clean has settled it = c.ask.ensures.same clean (subst (λ s. IsPlain (understood s select_key)) (sym has) key_plain) settled it

pub returns-in-Some-clause-same : goal.returns-in-Some-clause-same
returns-in-Some-clause-same g c clean has settled it = c.ask.ensures.same clean (subst (λ s. IsPlain (understood s select_key)) (sym has) key_plain) settled it

pub returns-in-Some-clause-opened : goal.returns-in-Some-clause-opened
returns-in-Some-clause-opened g c clean = shown_open (state g.S.Store c.args.conn.now) (state g.S.Store c.ask.new.conn) _ _ c.in_ok-rows.rows.items (c.in_ok-rows.ensures.found clean)

pub returns-clause-opened : goal.returns-clause-opened
returns-clause-opened g c clean = shown_open (state g.S.Store c.args.conn.now) (state g.S.Store c.ask.new.conn) _ _ c.in_ok-rows.rows.items (c.in_ok-rows.ensures.found clean)

pub returns-clause-same : goal.returns-clause-same
returns-clause-same g c clean has settled it = c.ask.ensures.same clean (subst (λ s. IsPlain (understood s select_key)) (sym has) key_plain) settled it
