use Rattle.std.proofs.Common.{rules, ◌++◌, [], ◌∷◌, ◌≡◌, ◌≤◌, ◌<◌, ℕ, List, None, true, false, sym, ap, subst, ◌∙◌, refl, length, arith}
use Rattle.std.proofs.lemmas.Result.{err_from_is_err_and}
use Rattle.std.proofs.Common.{inl}
use Rattle.std.specs.List.{AllByRecursion}
use Rattle.cr_session.specs.Sessions.{clean, standing}
use Rattle.cr_fleet.specs.Fleets.{is_free_name, Steps}
use Rattle.cr_world.specs.declared.command.Command.TheVariants.{Open}
use Rattle.cr_world.specs.declared.command.FleetReply.TheVariants.{Refused}
use Rattle.cr_world.specs.declared.refusal.Refusal.TheVariants.{BadName, Memory}
use Rattle.cr_fleet.specs.declared.fleet.Named.{Named}
use Rattle.cr_fleet.specs.Between.{Opens}
use Rattle.cr_fleet.proofs.Opening.{open_name, open_full, open_site, open_nameless, opened, not_opened, site_paired, full_paired, room_paired, name_opens, nameless_opens, full_opens, site_opens, want_opens, one_opens, none_opens}
use Rattle.cr_world.specs.Refusals.{of_store}
use Rattle.cr_world.specs.State.{new_state}
use Rattle.cr_session.proofs.Takings.{wanting}
use Rattle.cr_fleet.proofs.fleet.Fleet.open.Goals as goal

pub returns-then-not-is_free-clause-steps : goal.returns-then-not-is_free-clause-steps
returns-then-not-is_free-clause-steps g c = λ l k policy.
    let taken : is_free_name c.args.name.now c.args.self.now ≡ false = ap (λ (n : List ℕ). is_free_name n c.args.self.now) (sym c.as_str.ensures.value) ∙ sym c.is_free.ensures ∙ c.if-not-is_free.true in
    let copied : c.in_ok-copy.field-0 ≡ c.args.name.now = search rules in
    subst (λ (n : List ℕ). Steps l k (clean g.C.Cells.is_clean) (standing g.C.Cells.holding) policy c.args.self.now (Open c.args.name.now c.args.site) (Refused (BadName n)) policy c.args.self.now) (sym copied) (open_name l k (clean g.C.Cells.is_clean) (standing g.C.Cells.holding) policy c.args.self.now c.args.name.now c.args.site taken)

pub returns-then-len-ge-REPLICA_LIMIT-clause-steps : goal.returns-then-len-ge-REPLICA_LIMIT-clause-steps
returns-then-len-ge-REPLICA_LIMIT-clause-steps g c = λ l k policy.
    let replicas = c.self.inside.replicas in
    let free : is_free_name c.args.name.now c.args.self.now ≡ true = ap (λ (n : List ℕ). is_free_name n c.args.self.now) (sym c.as_str.ensures.value) ∙ sym c.is_free.ensures ∙ c.if-not-is_free.false in
    let full : 64 ≤ length replicas.items = (let h = c.if-len-ge-REPLICA_LIMIT.true in let l = c.len.ensures in let n = replicas.ok.0 in omega arith) in
    rw (← c.self.view_is) (open_full l k (clean g.C.Cells.is_clean) (standing g.C.Cells.holding) policy _ c.args.name.now c.args.site (rw (← c.self.view_is) at free) (full_paired (clean g.C.Cells.is_clean) (standing g.C.Cells.holding) replicas.items c.args.site full))

pub returns-then-has_site-clause-steps : goal.returns-then-has_site-clause-steps
returns-then-has_site-clause-steps g c = λ l k policy.
    let replicas = c.self.inside.replicas in
    let free : is_free_name c.args.name.now c.args.self.now ≡ true = ap (λ (n : List ℕ). is_free_name n c.args.self.now) (sym c.as_str.ensures.value) ∙ sym c.is_free.ensures ∙ c.if-not-is_free.false in
    let room : length replicas.items < 64 = (let h = c.if-len-ge-REPLICA_LIMIT.false in let l = c.len.ensures in let n = replicas.ok.0 in omega arith) in
    rw (← c.self.view_is) (open_site l k (clean g.C.Cells.is_clean) (standing g.C.Cells.holding) policy _ c.args.name.now c.args.site (rw (← c.self.view_is) at free) (room_paired (clean g.C.Cells.is_clean) (standing g.C.Cells.holding) replicas.items c.args.site room)
    (site_paired (clean g.C.Cells.is_clean) (standing g.C.Cells.holding) replicas.items c.args.site true (λ clean. sym c.if-has_site.true ∙ rw c.deref.ensures.value at (c.has_site.ensures (subst (AllByRecursion (λ r. g.C.Cells.is_clean r.session.0)) (sym c.deref.ensures.value) clean))) c.self.inside.in_use))

pub returns-in_err-copy-clause-steps : goal.returns-in_err-copy-clause-steps
returns-in_err-copy-clause-steps g c = λ l k policy.
    let taken : is_free_name c.args.name.now c.args.self.now ≡ false = ap (λ (n : List ℕ). is_free_name n c.args.self.now) (sym c.as_str.ensures.value) ∙ sym c.is_free.ensures ∙ c.if-not-is_free.true in
    let told = err_from_is_err_and c.from_residual.result c.from_residual.ensures.1 in
    rw (told.1, told.2) (open_nameless l k (clean g.C.Cells.is_clean) (standing g.C.Cells.holding) policy c.args.self.now c.args.name.now c.args.site taken)

pub returns-in_err-name-clause-steps : goal.returns-in_err-name-clause-steps
returns-in_err-name-clause-steps g c = λ l k policy.
    let replicas = c.self.inside.replicas in
    let free : is_free_name c.args.name.now c.args.self.now ≡ true = ap (λ (n : List ℕ). is_free_name n c.args.self.now) (sym c.as_str.ensures.value) ∙ sym c.is_free.ensures ∙ c.if-not-is_free.false in
    let room : length replicas.items < 64 = (let h = c.if-len-ge-REPLICA_LIMIT.false in let l = c.len.ensures in let n = replicas.ok.0 in omega arith) in
    let other = site_paired (clean g.C.Cells.is_clean) (standing g.C.Cells.holding) replicas.items c.args.site false (λ clean. sym c.if-has_site.false ∙ rw c.deref.ensures.value at (c.has_site.ensures (subst (AllByRecursion (λ r. g.C.Cells.is_clean r.session.0)) (sym c.deref.ensures.value) clean))) c.self.inside.in_use in
    let told = err_from_is_err_and c.from_residual-in_err-name.result c.from_residual-in_err-name.ensures.1 in
    rw (told.1, told.2, ← c.self.view_is)
    (not_opened l k (clean g.C.Cells.is_clean) (standing g.C.Cells.holding) policy replicas.items replicas.items c.self.inside.in_use c.args.name.now c.args.site Memory refl (inl refl) (rw (← c.self.view_is) at free) (room_paired (clean g.C.Cells.is_clean) (standing g.C.Cells.holding) replicas.items c.args.site room) other)

pub returns-in-Err-clause-steps : goal.returns-in-Err-clause-steps
returns-in-Err-clause-steps g c = λ l k policy.
    let replicas = c.self.inside.replicas in
    let free : is_free_name c.args.name.now c.args.self.now ≡ true = ap (λ (n : List ℕ). is_free_name n c.args.self.now) (sym c.as_str.ensures.value) ∙ sym c.is_free.ensures ∙ c.if-not-is_free.false in
    let room : length replicas.items < 64 = (let h = c.if-len-ge-REPLICA_LIMIT.false in let l = c.len.ensures in let n = replicas.ok.0 in omega arith) in
    let other = site_paired (clean g.C.Cells.is_clean) (standing g.C.Cells.holding) replicas.items c.args.site false (λ clean. sym c.if-has_site.false ∙ rw c.deref.ensures.value at (c.has_site.ensures (subst (AllByRecursion (λ r. g.C.Cells.is_clean r.session.0)) (sym c.deref.ensures.value) clean))) c.self.inside.in_use in
    rw (c.from.ensures, ← c.self.view_is)
    (not_opened l k (clean g.C.Cells.is_clean) (standing g.C.Cells.holding) policy replicas.items replicas.items c.self.inside.in_use c.args.name.now c.args.site (of_store c.in-Err.error) refl (wanting c.in-Err.error c.in-Err.ensures.made) (rw (← c.self.view_is) at free) (room_paired (clean g.C.Cells.is_clean) (standing g.C.Cells.holding) replicas.items c.args.site room) other)

pub returns-then-is_err-clause-steps : goal.returns-then-is_err-clause-steps
returns-then-is_err-clause-steps g c = λ l k policy.
    let replicas = c.self.inside.replicas in
    let free : is_free_name c.args.name.now c.args.self.now ≡ true = ap (λ (n : List ℕ). is_free_name n c.args.self.now) (sym c.as_str.ensures.value) ∙ sym c.is_free.ensures ∙ c.if-not-is_free.false in
    let room : length replicas.items < 64 = (let h = c.if-len-ge-REPLICA_LIMIT.false in let l = c.len.ensures in let n = replicas.ok.0 in omega arith) in
    let other = site_paired (clean g.C.Cells.is_clean) (standing g.C.Cells.holding) replicas.items c.args.site false (λ clean. sym c.if-has_site.false ∙ rw c.deref.ensures.value at (c.has_site.ensures (subst (AllByRecursion (λ r. g.C.Cells.is_clean r.session.0)) (sym c.deref.ensures.value) clean))) c.self.inside.in_use in
    let same : c.push.new.self.items ≡ replicas.items = search rules in
    rw (← c.self.view_is)
    (not_opened l k (clean g.C.Cells.is_clean) (standing g.C.Cells.holding) policy replicas.items c.push.new.self.items c.self.inside.in_use c.args.name.now c.args.site Memory same (inl refl) (rw (← c.self.view_is) at free) (room_paired (clean g.C.Cells.is_clean) (standing g.C.Cells.holding) replicas.items c.args.site room) other)

pub returns-clause-steps : goal.returns-clause-steps
returns-clause-steps g c = λ l k policy.
    let replicas = c.self.inside.replicas in
    let free : is_free_name c.args.name.now c.args.self.now ≡ true = ap (λ (n : List ℕ). is_free_name n c.args.self.now) (sym c.as_str.ensures.value) ∙ sym c.is_free.ensures ∙ c.if-not-is_free.false in
    let room : length replicas.items < 64 = (let h = c.if-len-ge-REPLICA_LIMIT.false in let l = c.len.ensures in let n = replicas.ok.0 in omega arith) in
    let named : Named g.row.C.Denot = record { name = c.in_ok-name.name; session = (c.in-Ok.cells, None) } in
    let pushed : c.push.new.self.items ≡ replicas.items ++ named ∷ [] = search rules in
    let copied : c.in_ok-name.name ≡ c.args.name.now = search rules in
    let at : c.len-at.result ≡ length replicas.items = (let l = c.len-at.ensures in let n = replicas.ok.0 in omega arith) in
    let free_site = site_paired (clean g.C.Cells.is_clean) (standing g.C.Cells.holding) replicas.items c.args.site false (λ clean. sym c.if-has_site.false ∙ rw c.deref.ensures.value at (c.has_site.ensures (subst (AllByRecursion (λ r. g.C.Cells.is_clean r.session.0)) (sym c.deref.ensures.value) clean))) c.self.inside.in_use in
    rw (← c.self.view_is) (opened l k (clean g.C.Cells.is_clean) (standing g.C.Cells.holding) policy replicas.items c.push.new.self.items c.self.inside.in_use c.len-at.result named c.args.name.now c.args.site pushed copied at (rw (← c.self.view_is) at free) (room_paired (clean g.C.Cells.is_clean) (standing g.C.Cells.holding) replicas.items c.args.site room) free_site (λ clean. ap new_state (c.in-Ok.ensures.made clean)) c.in-Ok.ensures.clean)

pub returns-then-not-is_free-clause-opens : goal.returns-then-not-is_free-clause-opens
returns-then-not-is_free-clause-opens g c =
    let taken : is_free_name c.args.name.now c.args.self.now ≡ false = ap (λ (n : List ℕ). is_free_name n c.args.self.now) (sym c.as_str.ensures.value) ∙ sym c.is_free.ensures ∙ c.if-not-is_free.true in
    let copied : c.in_ok-copy.field-0 ≡ c.args.name.now = search rules in
    subst (λ (n : List ℕ). Opens (clean g.C.Cells.is_clean) (standing g.C.Cells.holding) c.args.self.now c.args.self.now c.args.name.now c.args.site (Refused (BadName n))) (sym copied) (name_opens (clean g.C.Cells.is_clean) (standing g.C.Cells.holding) c.args.self.now c.args.name.now c.args.site taken)

pub returns-in_err-copy-clause-opens : goal.returns-in_err-copy-clause-opens
returns-in_err-copy-clause-opens g c =
    let taken : is_free_name c.args.name.now c.args.self.now ≡ false = ap (λ (n : List ℕ). is_free_name n c.args.self.now) (sym c.as_str.ensures.value) ∙ sym c.is_free.ensures ∙ c.if-not-is_free.true in
    let told = err_from_is_err_and c.from_residual.result c.from_residual.ensures.1 in
    rw (told.1, told.2) (nameless_opens (clean g.C.Cells.is_clean) (standing g.C.Cells.holding) c.args.self.now c.args.name.now c.args.site taken)

pub returns-then-len-ge-REPLICA_LIMIT-clause-opens : goal.returns-then-len-ge-REPLICA_LIMIT-clause-opens
returns-then-len-ge-REPLICA_LIMIT-clause-opens g c =
    let replicas = c.self.inside.replicas in
    let free : is_free_name c.args.name.now c.args.self.now ≡ true = ap (λ (n : List ℕ). is_free_name n c.args.self.now) (sym c.as_str.ensures.value) ∙ sym c.is_free.ensures ∙ c.if-not-is_free.false in
    let full : 64 ≤ length replicas.items = (let h = c.if-len-ge-REPLICA_LIMIT.true in let l = c.len.ensures in let n = replicas.ok.0 in omega arith) in
    rw (← c.self.view_is) (full_opens (clean g.C.Cells.is_clean) (standing g.C.Cells.holding) _ c.args.name.now c.args.site (rw (← c.self.view_is) at free) (full_paired (clean g.C.Cells.is_clean) (standing g.C.Cells.holding) replicas.items c.args.site full))

pub returns-then-has_site-clause-opens : goal.returns-then-has_site-clause-opens
returns-then-has_site-clause-opens g c =
    let replicas = c.self.inside.replicas in
    let free : is_free_name c.args.name.now c.args.self.now ≡ true = ap (λ (n : List ℕ). is_free_name n c.args.self.now) (sym c.as_str.ensures.value) ∙ sym c.is_free.ensures ∙ c.if-not-is_free.false in
    let room : length replicas.items < 64 = (let h = c.if-len-ge-REPLICA_LIMIT.false in let l = c.len.ensures in let n = replicas.ok.0 in omega arith) in
    rw (← c.self.view_is) (site_opens (clean g.C.Cells.is_clean) (standing g.C.Cells.holding) _ c.args.name.now c.args.site (rw (← c.self.view_is) at free) (room_paired (clean g.C.Cells.is_clean) (standing g.C.Cells.holding) replicas.items c.args.site room))

pub returns-in_err-name-clause-opens : goal.returns-in_err-name-clause-opens
returns-in_err-name-clause-opens g c =
    let replicas = c.self.inside.replicas in
    let free : is_free_name c.args.name.now c.args.self.now ≡ true = ap (λ (n : List ℕ). is_free_name n c.args.self.now) (sym c.as_str.ensures.value) ∙ sym c.is_free.ensures ∙ c.if-not-is_free.false in
    let room : length replicas.items < 64 = (let h = c.if-len-ge-REPLICA_LIMIT.false in let l = c.len.ensures in let n = replicas.ok.0 in omega arith) in
    let told = err_from_is_err_and c.from_residual-in_err-name.result c.from_residual-in_err-name.ensures.1 in
    rw (told.1, told.2, ← c.self.view_is) (want_opens (clean g.C.Cells.is_clean) (standing g.C.Cells.holding) _ c.args.name.now c.args.site Memory (inl refl) (rw (← c.self.view_is) at free) (room_paired (clean g.C.Cells.is_clean) (standing g.C.Cells.holding) replicas.items c.args.site room))

pub returns-in-Err-clause-opens : goal.returns-in-Err-clause-opens
returns-in-Err-clause-opens g c =
    let replicas = c.self.inside.replicas in
    let free : is_free_name c.args.name.now c.args.self.now ≡ true = ap (λ (n : List ℕ). is_free_name n c.args.self.now) (sym c.as_str.ensures.value) ∙ sym c.is_free.ensures ∙ c.if-not-is_free.false in
    let room : length replicas.items < 64 = (let h = c.if-len-ge-REPLICA_LIMIT.false in let l = c.len.ensures in let n = replicas.ok.0 in omega arith) in
    rw (c.from.ensures, ← c.self.view_is) (want_opens (clean g.C.Cells.is_clean) (standing g.C.Cells.holding) _ c.args.name.now c.args.site (of_store c.in-Err.error) (wanting c.in-Err.error c.in-Err.ensures.made) (rw (← c.self.view_is) at free) (room_paired (clean g.C.Cells.is_clean) (standing g.C.Cells.holding) replicas.items c.args.site room))

pub returns-then-is_err-clause-opens : goal.returns-then-is_err-clause-opens
returns-then-is_err-clause-opens g c =
    let replicas = c.self.inside.replicas in
    let free : is_free_name c.args.name.now c.args.self.now ≡ true = ap (λ (n : List ℕ). is_free_name n c.args.self.now) (sym c.as_str.ensures.value) ∙ sym c.is_free.ensures ∙ c.if-not-is_free.false in
    let room : length replicas.items < 64 = (let h = c.if-len-ge-REPLICA_LIMIT.false in let l = c.len.ensures in let n = replicas.ok.0 in omega arith) in
    let same : c.push.new.self.items ≡ replicas.items = search rules in
    rw (← c.self.view_is) (none_opens (clean g.C.Cells.is_clean) (standing g.C.Cells.holding) replicas.items c.push.new.self.items c.self.inside.in_use c.args.name.now c.args.site (rw (← c.self.view_is) at free) (room_paired (clean g.C.Cells.is_clean) (standing g.C.Cells.holding) replicas.items c.args.site room) Memory same (inl refl))

pub returns-clause-opens : goal.returns-clause-opens
returns-clause-opens g c =
    let replicas = c.self.inside.replicas in
    let free : is_free_name c.args.name.now c.args.self.now ≡ true = ap (λ (n : List ℕ). is_free_name n c.args.self.now) (sym c.as_str.ensures.value) ∙ sym c.is_free.ensures ∙ c.if-not-is_free.false in
    let room : length replicas.items < 64 = (let h = c.if-len-ge-REPLICA_LIMIT.false in let l = c.len.ensures in let n = replicas.ok.0 in omega arith) in
    let named : Named g.row.C.Denot = record { name = c.in_ok-name.name; session = (c.in-Ok.cells, None) } in
    let pushed : c.push.new.self.items ≡ replicas.items ++ named ∷ [] = search rules in
    let copied : c.in_ok-name.name ≡ c.args.name.now = search rules in
    let at : c.len-at.result ≡ length replicas.items = (let l = c.len-at.ensures in let n = replicas.ok.0 in omega arith) in
    rw (← c.self.view_is) (one_opens (clean g.C.Cells.is_clean) (standing g.C.Cells.holding) replicas.items c.push.new.self.items c.self.inside.in_use c.args.name.now c.args.site (rw (← c.self.view_is) at free) (room_paired (clean g.C.Cells.is_clean) (standing g.C.Cells.holding) replicas.items c.args.site room) c.len-at.result named pushed copied at c.in-Ok.ensures.clean (ap new_state (c.in-Ok.ensures.made c.in-Ok.ensures.clean)))
