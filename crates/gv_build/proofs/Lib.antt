mod Outcomes
mod Numbers
mod OffsetLaws
mod Steps
mod Places
mod Items
mod Encodings
mod Wholes
