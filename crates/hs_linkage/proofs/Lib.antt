mod Chained
mod Indexed
mod KeptChains
mod Linkages
mod Marked
mod Onward
mod Unfit
