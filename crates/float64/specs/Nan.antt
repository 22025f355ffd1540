-- The NaN through the operations: every sum, difference, product and quotient with it is it, and only it differs from itself. There is one `nan`, with no
-- sign and no payload, and `is_nan` is the test for it. Assumes nothing.
use Rattle.std.specs.Prelude.{◌≡◌, refl, false, not, T, Float}
use Rattle.std.proofs.Common.{true≢false}
use Rattle.std.specs.Float.{nan, inf, fin, Format}
use Rattle.std.specs.Float.Ieee.{neg, add, sub, mul, div, ne, is_nan}

pub is_nan_lem : (x : Float) → T (is_nan x) → x ≡ nan
unfolding is_nan
is_nan_lem nan h = refl
is_nan_lem (inf s) h = absurd h
is_nan_lem (fin s m e) h = absurd h

pub equals_itself : (x : Float) → ne x x ≡ false → T (not (is_nan x))
unfolding ne is_nan
equals_itself nan h = absurd (true≢false h)
equals_itself (inf s) h = tt
equals_itself (fin s m e) h = tt

pub add_nan_left : (f : Format) (y : Float) → add f nan y ≡ nan
unfolding add
add_nan_left f y = refl

pub add_nan_right : (f : Format) (x : Float) → add f x nan ≡ nan
unfolding add
add_nan_right f nan = refl
add_nan_right f (inf s) = refl
add_nan_right f (fin s m e) = refl

pub sub_nan_left : (f : Format) (y : Float) → sub f nan y ≡ nan
unfolding sub
sub_nan_left f y = add_nan_left f (neg y)

pub sub_nan_right : (f : Format) (x : Float) → sub f x nan ≡ nan
unfolding sub neg
sub_nan_right f x = add_nan_right f x

pub mul_nan_left : (f : Format) (y : Float) → mul f nan y ≡ nan
unfolding mul
mul_nan_left f y = refl

pub mul_nan_right : (f : Format) (x : Float) → mul f x nan ≡ nan
unfolding mul
mul_nan_right f nan = refl
mul_nan_right f (inf s) = refl
mul_nan_right f (fin s m e) = refl

pub div_nan_left : (f : Format) (y : Float) → div f nan y ≡ nan
unfolding div
div_nan_left f y = refl

pub div_nan_right : (f : Format) (x : Float) → div f x nan ≡ nan
unfolding div
div_nan_right f nan = refl
div_nan_right f (inf s) = refl
div_nan_right f (fin s m e) = refl
