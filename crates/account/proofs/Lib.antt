mod Histories
mod Mapped
mod Printers
