-- The three numbers of a van's squared distance, which is start + 2 × tilt × t + bend × t².
use Rattle.std.specs.Prelude.{ℤ, ◌+ℤ◌, ◌*ℤ◌}
use Rattle.vans.specs.declared.van.Van.{Van}
use Rattle.vans.specs.Distance.{square}

-- the squared distance at opening
abbrev pub start_of : Van → ℤ
start_of v = square v.px +ℤ square v.py

-- half of how fast it grows there: the position times the velocity
abbrev pub tilt_of : Van → ℤ
tilt_of v = v.px *ℤ v.vx +ℤ v.py *ℤ v.vy

-- the squared velocity
abbrev pub bend_of : Van → ℤ
bend_of v = square v.vx +ℤ square v.vy
