pub mod Offenders
