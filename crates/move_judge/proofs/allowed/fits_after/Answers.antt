use Rattle.std.proofs.Common.{inl, inr, ◌∙◌, ℕ, subst, sym}
use Rattle.dimension_core.specs.Setup.{setting}
use Rattle.route_parts.specs.Kept.{AreKept}
use Rattle.move_judge.proofs.allowed.fits_after.Goals as goal

pub shift_inside_fits-requires : goal.shift_inside_fits-requires
shift_inside_fits-requires g c =
    let near = rw c.in-Shift.is at c.requires.near in
    let s = setting c.args.setup.now in
    let routes = c.args.view.now.routes in
    record {
      laws = c.laws_below.ensures;
      kept = subst (λ (x : ℕ). AreKept s routes c.in-Shift.vehicle x c.args.pair.v_kept.now) (sym near.1 ∙ sym c.if-vehicle-to.true)
          (subst (λ (x : ℕ). AreKept s routes x c.args.pair.w c.args.pair.v_kept.now) (sym near.0) c.requires.v_kept);
      view = c.requires.view;
      possible = rw (sym c.if-vehicle-to.true) at (rw c.in-Shift.is at c.requires.possible);
    }

pub shift_fits-requires : goal.shift_fits-requires
shift_fits-requires g c =
    let near = rw c.in-Shift.is at c.requires.near in
    record {
      laws = c.laws_below.ensures;
      v_kept = c.requires.v_kept;
      w_kept = c.requires.w_kept;
      view = c.requires.view;
      possible = rw (near.0, near.1) at (rw c.in-Shift.is at c.requires.possible);
      apart = λ e. c.if-vehicle-to.false (near.0 ∙ e ∙ sym near.1);
    }

pub swap_inside_fits-requires : goal.swap_inside_fits-requires
swap_inside_fits-requires g c =
    let near = rw c.in-Swap.is at c.requires.near in
    let s = setting c.args.setup.now in
    let routes = c.args.view.now.routes in
    record {
      laws = c.laws_below.ensures;
      kept = subst (λ (x : ℕ). AreKept s routes c.in-Swap.vehicle x c.args.pair.v_kept.now) (sym near.1 ∙ sym c.if-vehicle-other.true)
          (subst (λ (x : ℕ). AreKept s routes x c.args.pair.w c.args.pair.v_kept.now) (sym near.0) c.requires.v_kept);
      view = c.requires.view;
      possible = rw (sym c.if-vehicle-other.true) at (rw c.in-Swap.is at c.requires.possible);
      order = near.2 (sym near.0 ∙ c.if-vehicle-other.true ∙ near.1);
    }

pub swap_fits-requires : goal.swap_fits-requires
swap_fits-requires g c =
    let near = rw c.in-Swap.is at c.requires.near in
    record {
      laws = c.laws_below.ensures;
      v_kept = c.requires.v_kept;
      w_kept = c.requires.w_kept;
      view = c.requires.view;
      possible = rw (near.0, near.1) at (rw c.in-Swap.is at c.requires.possible);
      apart = λ e. c.if-vehicle-other.false (near.0 ∙ e ∙ sym near.1);
    }

pub reverse_fits-requires : goal.reverse_fits-requires
reverse_fits-requires g c =
    let near = rw c.in-Reverse.is at c.requires.near in
    let s = setting c.args.setup.now in
    let routes = c.args.view.now.routes in
    record {
      laws = c.laws_below.ensures;
      kept = subst (λ (x : ℕ). AreKept s routes c.in-Reverse.vehicle x c.args.pair.v_kept.now) (sym near.1 ∙ sym near.0)
          (subst (λ (x : ℕ). AreKept s routes x c.args.pair.w c.args.pair.v_kept.now) (sym near.0) c.requires.v_kept);
      view = c.requires.view;
      possible = rw c.in-Reverse.is at c.requires.possible;
    }

pub cross_fits-requires : goal.cross_fits-requires
cross_fits-requires g c =
    let near = rw c.in-Cross.is at c.requires.near in
    record {
      laws = c.laws_below.ensures;
      v_kept = c.requires.v_kept;
      w_kept = c.requires.w_kept;
      view = c.requires.view;
      possible = rw (near.0, near.1) at (rw c.in-Cross.is at c.requires.possible);
    }

pub returns-then-vehicle-to : goal.returns-then-vehicle-to
returns-then-vehicle-to g c = rw (c.in-Shift.is, sym c.if-vehicle-to.true) c.shift_inside_fits.ensures

pub returns-else-vehicle-to : goal.returns-else-vehicle-to
returns-else-vehicle-to g c =
    let near = rw c.in-Shift.is at c.requires.near in
    rw (c.in-Shift.is, near.0, near.1) c.shift_fits.ensures

pub returns-then-vehicle-other : goal.returns-then-vehicle-other
returns-then-vehicle-other g c = rw (c.in-Swap.is, sym c.if-vehicle-other.true) c.swap_inside_fits.ensures

pub returns-else-vehicle-other : goal.returns-else-vehicle-other
returns-else-vehicle-other g c =
    let near = rw c.in-Swap.is at c.requires.near in
    rw (c.in-Swap.is, near.0, near.1) c.swap_fits.ensures

pub returns-in-Reverse : goal.returns-in-Reverse
returns-in-Reverse g c = rw c.in-Reverse.is c.reverse_fits.ensures

pub returns-in-Cross : goal.returns-in-Cross
returns-in-Cross g c =
    let near = rw c.in-Cross.is at c.requires.near in
    rw (c.in-Cross.is, near.0, near.1) c.cross_fits.ensures

pub returns-in-Insert : goal.returns-in-Insert
returns-in-Insert g c =
    let near = c.requires.near in
    elim c.in-Insert.is [
      | inl insert ↦ absurd (rw insert.3 at near)
      | inr remove ↦ absurd (rw remove.2 at near)
    ]
