-- The standards' worked examples, computed from the definitions; the program has the code work more of them. Here and not beside the definitions, so that
-- they are computed once and not with every edit there.
mod Fips180
mod Fips197
mod Rfc4493
