-- What the tables of AES mean: FIPS 197, sections 3.2 and 4 to 5.1.1, on numbers below 256.
pub mod Field
pub mod Mixing
pub mod Table
