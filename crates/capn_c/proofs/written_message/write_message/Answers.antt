-- The bytes written are the canonical bytes of the only value that the message denotes.
use Rattle.std.proofs.Common.{◌≡◌, inl, inr, ℕ, Some, None, length, take, refl, ap, sym, subst, ◌∙◌, arith}
use Rattle.capn_value.specs.FirstCap.{first_cap}
use Rattle.capn_walk.specs.Accepted.{root}
use Rattle.capn_walk.proofs.shared.Unique.{unique}
use Rattle.capn_canon.specs.Canonicity.{IsCanonicalForm}
use Rattle.capn_canon.specs.MessageRefusal.{IsIntoPaidWithin}
use Rattle.capn_canon.specs.Theorem.{RefusedInto}
use Rattle.capn_canon.specs.declared.message_refusal.IntoRefusal.{IntoRefusal}
use Rattle.capn_canon.specs.declared.refusal.Refusal.TheVariants as refusals
use Rattle.capn_canon.proofs.shared.NotRefused.{accepted-not_refused}
use Rattle.capn_abi.specs.StatusCodes.{answered}
use Rattle.capn_c.proofs.Filled.{message_filled}
use Rattle.capn_c.proofs.Listed.{walk_listed}
use Rattle.capn_c.proofs.OutOfMemory.{stopped_memory}
use Rattle.capn_c.proofs.Reported.{not_filled, reported}
use Rattle.capn_c.proofs.Short.{short}
use Rattle.capn_c.proofs.written_message.write_message.Goals as goal

pub returns-in-Ok : goal.returns-in-Ok
returns-in-Ok g c =
    let f = c.in-Ok.ensures in
    let w = f.written in
    let price = c.in-Ok.written.paid in
    message_filled (g.M.Asked.message c.args.space) c.args.limits c.args.out.now c.ask_into.new.out w.value
    price 0 c.answer_of.result w.is.is w.is.free w.is.pays
    (c.answer_of.ensures ∙ ap (λ (n : ℕ). answered n price 0) w.is.long)
    (record { length_is = refl; either = inl (refl, w.written) }) f.bounded.within (omega (arith, f.short, w.is.long))
    (λ e v h. subst (λ (n : ℕ). IsCanonicalForm (take n c.ask_into.new.out) c.args.limits v) w.is.long
    (record { reads_back = f.reads_back v h; pays = f.pays v h; own = f.own v h; exactly = f.exactly v h }))

pub returns-in-NoRoom : goal.returns-in-NoRoom
returns-in-NoRoom g c =
    let m = g.M.Asked.message c.args.space in
    let l = c.args.limits in
    let price = c.in-NoRoom.paid in
    let r = subst (λ (e : IntoRefusal). RefusedInto m l (length c.args.out.now) e) c.in-NoRoom.is
    c.in-Err.ensures.refused in
    let within = subst (λ (e : IntoRefusal). IsIntoPaidWithin l.budget e) c.in-NoRoom.is c.in-Err.ensures.bounded in
    let enough = short m l r.0 c.in-Err.ensures.is_message (omega arith) (omega arith) r.1 in
    message_filled m l c.args.out.now c.ask_into.new.out r.0 price 1 c.answer_of-in-NoRoom.result r.1 r.2 r.5
    (c.answer_of-in-NoRoom.ensures ∙ ap (λ (n : ℕ). answered n price 0) r.3)
    (record { length_is = refl; either = inr (refl, (omega (arith, r.3, r.4), c.in-Err.ensures.unchanged)) }) within
    (omega (arith, enough, r.5)) (λ e. absurd (omega (arith, e)))

pub returns-in-Walk : goal.returns-in-Walk
returns-in-Walk g c =
    let m = g.M.Asked.message c.args.space in
    let l = c.args.limits in
    let s = c.in-Walk.stopped in
    let r = subst (λ (e : IntoRefusal). RefusedInto m l (length c.args.out.now) e) c.in-Walk.is
    c.in-Err.ensures.refused in
    let within = subst (λ (e : IntoRefusal). IsIntoPaidWithin l.budget e) c.in-Walk.is c.in-Err.ensures.bounded in
    not_filled c.refuse.result c.refuse.new.report (refusals.Walk s) c.refuse.ensures l c.args.out.now
    c.ask_into.new.out
    (reported l.budget c.refuse.result c.refuse.new.report (refusals.Walk s) c.refuse.ensures r (walk_listed s.fault)
    (stopped_memory m l s r) within) c.in-Err.ensures.unchanged
    (λ v h n. absurd (accepted-not_refused m l s h.accepted r))

pub returns-in-Capability : goal.returns-in-Capability
returns-in-Capability g c =
    let m = g.M.Asked.message c.args.space in
    let l = c.args.limits in
    let k = refusals.Capability c.in-Capability.index in
    let r = subst (λ (e : IntoRefusal). RefusedInto m l (length c.args.out.now) e) c.in-Capability.is
    c.in-Err.ensures.refused in
    not_filled c.refuse-in-Capability.result c.refuse-in-Capability.new.report k c.refuse-in-Capability.ensures l
    c.args.out.now c.ask_into.new.out
    (reported l.budget c.refuse-in-Capability.result c.refuse-in-Capability.new.report k
    c.refuse-in-Capability.ensures r refl (λ e. omega (arith, e)) tt) c.in-Err.ensures.unchanged
    (λ v h n.
    let same = unique m r.0 v root r.1.is h.is in
    let none : Some c.in-Capability.index ≡ None = sym r.2 ∙ ap first_cap same ∙ n in
    absurd cc)
