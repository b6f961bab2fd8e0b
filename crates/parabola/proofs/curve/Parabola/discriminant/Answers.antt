use Rattle.parabola.proofs.Sizes.{discriminant_size, discriminant_kept}
use Rattle.parabola.proofs.curve.Parabola.discriminant.Goals as goal

pub returns : goal.returns
returns c =
    let p = c.args.self.now in
    record { value = discriminant_kept p; bound = rw (discriminant_kept p) (discriminant_size p) }
