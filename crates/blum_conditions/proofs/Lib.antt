mod Added
mod Evicted
mod Linked
