mod MediaLemmas
mod KeptLemmas
mod BadLemmas
mod DeviceLemmas
mod GoesLemmas
mod TiedLemmas
mod SimLemmas
